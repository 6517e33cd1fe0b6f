-- When a stop function runs, that it runs once, and what becomes of its answer.
use Rattle.std.specs.Prelude.{◌≡◌, ◌⊎◌, ℕ, true, Some}
use Rattle.smp_stop_steps.specs.Names.{has, put, DISABLE_IRQ, RUN, StopStage, One, Multi, Work, Word, Gate}
use Rattle.smp_stop_steps.specs.{Callings.IsCallOf, Callings.with_answer, Carries.CarriesIn, Promises.RunsAlone, Seats.StopRole, Seats.In, Seats.Duty}
use Rattle.smp_stop_steps.specs.{Shows.StopShows, Sits.ControlFits, Sources.Source, Stages.StopControlValue, Stages.answer_at, State.Setup, State.StopState}
use Rattle.smp_stop_steps.specs.{State.StopCall, State.Calls, Steps.FunctionGoes, Steps.note_then, Steps.state_after, Stop.Inside}

-- a CPU that is active in its Multi stop, at RUN, which it has not acknowledged, while the whole mask has acknowledged
-- DISABLE_IRQ and has its interrupts off
pub record IsActive (p : StopState) (s c : ℕ) : Type 0 where
  pub multi : (p.now.stop s).work.kind ≡ Multi
  pub active : has (p.now.stop s).work.active c ≡ true
  pub stands : (p.now.stop s).standing c ≡ Inside DISABLE_IRQ RUN
  pub alone : RunsAlone p s c

-- a function runs on a CPU that is in a stop, whose work has it and its argument: of kind One, or where it is active
pub record RunsFunction (p : StopState) (s c : ℕ) (call : StopCall) : Type 0 where
  pub inside : p.now.inside c ≡ Some s
  pub is_call : IsCallOf (p.now.stop s).work call
  pub runs : ((p.now.stop s).work.kind ≡ One) ⊎ IsActive p s c

abbrev pub HasFunctions : StopState → Type 0
HasFunctions p = (c : ℕ) (call : StopCall) → p.calling c ≡ Calls call → (s : ℕ) × RunsFunction p s c call

abbrev pub FunctionsRun : Type 0
FunctionsRun = (u : Setup) (p : StopState) (at : Word → ℕ) (seat : ℕ → StopRole) (source : ℕ → Source) → StopShows u p at seat source → HasFunctions p

-- at each step a CPU calls its function, and says so, only where it had called none; it acknowledges RUN with its answer,
-- which it then carries, and completes with it; else its function is as it was
abbrev pub FunctionsRunOnce : Type 0
FunctionsRunOnce = (u : Setup) (p : StopState) (at : Word → ℕ) (seat : ℕ → StopRole) (source : ℕ → Source) → StopShows u p at seat source →
    (c : StopControlValue) (me : ℕ) → ControlFits u me (at Gate) c (seat me) (source me) → CarriesIn c (p.calling me) →
    (stage : StopStage) → c.stage ≡ Some stage → FunctionGoes p (state_after u p at c me stage) me (note_then u at c me stage) (answer_at stage)

-- until it completes, nothing that words show names the answer of a CPU's function: any other may be put for it
abbrev pub AnswersMayBeReplaced : Type 0
AnswersMayBeReplaced = (u : Setup) (p : StopState) (at : Word → ℕ) (seat : ℕ → StopRole) (source : ℕ → Source) → StopShows u p at seat source →
    (me s : ℕ) (work : Work) (acked looked : ℕ) (turn : Duty) (answer : ℕ) → seat me ≡ In s work acked looked turn →
    StopShows u (record p { calling = put p.calling me (with_answer answer (p.calling me)) }) at seat source
