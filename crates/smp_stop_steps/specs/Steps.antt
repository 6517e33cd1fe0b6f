-- What is to be proved of each step of a command of the stop half.
use Rattle.std.specs.Prelude.{◌≡◌, ◌≢◌, ◌⊎◌, ℕ, Bool, true, false, Option, Some, List, [], ◌∷◌, ◌++◌}
use Rattle.smp_stop_steps.specs.Names.{put, word_of, at_after, seen_of, StopStage, Note, One, Patch, Word, Gate}
use Rattle.smp_stop_steps.specs.State.{Setup, StopState, Calling, Idle, Calls, StopCall}
use Rattle.smp_stop_steps.specs.{Callings.HasCalled, Callings.answer_in, Tells.called_more, Stages.StopControlValue, Stages.stop_access, Stages.stop_outcome}
use Rattle.smp_stop_steps.specs.{Tells.carried, Tells.tells, Seats.StopRole, Sources.Source, Shows.StopShows, Stages.answer_at}
use Rattle.smp_stop_steps.specs.{Carries.CarriesIn, Sits.ControlFits}

-- the state after a step of a CPU at this stage
abbrev pub state_after : Setup → StopState → (Word → ℕ) → StopControlValue → ℕ → StopStage → StopState
state_after u p at c me stage = let access = stop_access u.cpus me c.changes stage in
    let found = at (word_of access) in
    tells u p (seen_of me access found (stop_outcome me c stage found).note) (answer_at stage)

abbrev pub at_then : Setup → (Word → ℕ) → StopControlValue → ℕ → StopStage → Word → ℕ
at_then u at c me stage = at_after at (stop_access u.cpus me c.changes stage)

abbrev pub control_then : Setup → (Word → ℕ) → StopControlValue → ℕ → StopStage → StopControlValue
control_then u at c me stage = (stop_outcome me c stage (at (word_of (stop_access u.cpus me c.changes stage)))).control

-- after the step the words show the stops that it tells, with the CPU where its next stage says
pub record StopStep (u : Setup) (p : StopState) (at : Word → ℕ) (seat : ℕ → StopRole) (source : ℕ → Source) (c : StopControlValue) (me : ℕ)
    (stage : StopStage) : Type 0 where
  pub seat_after : StopRole
  pub source_after : Source
  pub shows : StopShows u (state_after u p at c me stage) (at_then u at c me stage) (put seat me seat_after) (put source me source_after)
  pub sits : ControlFits u me (at_then u at c me stage Gate) (control_then u at c me stage) seat_after source_after

abbrev pub note_then : Setup → (Word → ℕ) → StopControlValue → ℕ → StopStage → Option Note
note_then u at c me stage = (stop_outcome me c stage (at (word_of (stop_access u.cpus me c.changes stage)))).note

-- what a step may tell of functions: how far each CPU is with its own, the calls made, and the answers given
pub record ToldStops : Type 0 where
  pub calling : ℕ → Calling
  pub calls : ℕ → List StopCall
  pub answers : ℕ → ℕ → List ℕ

abbrev pub told_of : StopState → ToldStops
told_of p = record { calling = p.calling; calls = p.calls; answers = p.answers }

abbrev pub is_run : Option Note → Bool
is_run (Some (Note.Run func arg)) = true
is_run _ = false

-- the step tells nothing of functions
pub record Silent (p q : StopState) (said : Option Note) : Type 0 where
  pub same : told_of q ≡ told_of p
  pub says : is_run said ≡ false

-- the CPU calls its function, which gives this answer: it says so, and had called none
pub record CallsIt (p q : StopState) (me : ℕ) (said : Option Note) (answer : ℕ) : Type 0 where
  pub call : StopCall
  pub idle : p.calling me ≡ Idle
  pub calls : told_of q ≡ record (told_of p) { calling = put p.calling me (Calls call) }
  pub says : said ≡ Some (Note.Run call.func call.arg)
  pub answers : call.answer ≡ answer

-- it acknowledges RUN: where it is active it has called its function; the call is in its list, and it carries the answer
pub record CarriesIt (p q : StopState) (me : ℕ) (said : Option Note) : Type 0 where
  pub slot : ℕ
  pub inside : p.now.inside me ≡ Some slot
  pub called : HasCalled me (p.now.stop slot).work (p.calling me) ⊎ ((p.now.stop slot).work.kind ≡ Patch)
  pub carries : told_of q ≡ record (told_of p) {
    calling = put p.calling me (carried me p.now.patching (p.calling me));
    calls = called_more p.calls me (p.calling me);
  }
  pub says : is_run said ≡ false

-- it completes: its answer is the one of its function, that of a stop of kind One has been called
pub record CompletesIt (p q : StopState) (me : ℕ) (said : Option Note) : Type 0 where
  pub slot : ℕ
  pub inside : p.now.inside me ≡ Some slot
  pub called : (p.now.stop slot).work.kind ≡ One → p.calling me ≢ Idle
  pub completes : told_of q ≡ record {
    calling = put p.calling me Idle;
    calls = called_more p.calls me (p.calling me);
    answers = put p.answers me (put (p.answers me) slot (p.answers me slot ++ answer_in (p.calling me) ∷ []));
  }
  pub says : is_run said ≡ false

-- what a step does of functions is one of these
abbrev pub FunctionGoes : StopState → StopState → ℕ → Option Note → ℕ → Type 0
FunctionGoes p q me said answer = Silent p q said ⊎ CallsIt p q me said answer ⊎ CarriesIt p q me said ⊎ CompletesIt p q me said

-- and the CPU's function is where its next stage says, that of each other CPU where it was
pub record CallStep (u : Setup) (p : StopState) (at : Word → ℕ) (c : StopControlValue) (me : ℕ) (stage : StopStage) : Type 0 where
  pub mine : CarriesIn (control_then u at c me stage) ((state_after u p at c me stage).calling me)
  pub others : (cpu : ℕ) → cpu ≢ me → (state_after u p at c me stage).calling cpu ≡ p.calling cpu
  pub goes : FunctionGoes p (state_after u p at c me stage) me (note_then u at c me stage) (answer_at stage)
