-- What the note of a step of the stop half says of the state.
use Rattle.std.specs.Int.{w32, cast_signed}
use Rattle.std.specs.Prelude.{◌≡◌, ◌≢◌, ◌⊎◌, ℕ, ℤ, ◌+◌, ◌%◌, ◌^◌, Bool, true, false, Option, Some, None, List, [], ◌∷◌, ◌++◌}
use Rattle.smp_stop_steps.specs.Names.{has, put, Note, Seen, Word, Gate, Slot, Key, Entry, Site, Work, StopStage, RUN, EXIT}
use Rattle.smp_stop_steps.specs.{KeyCounts.moved_by, Labels.ReadSite, Carries.CarriesIn, Stages.StopControlValue, Steps.state_after, Tells.first_readings}
use Rattle.smp_stop_steps.specs.{Labels.Reading, Labels.ReadKey, Shows.StopShows, Sources.Source, State.Setup, State.StopState, State.StopCall, Steps.note_then}
use Rattle.smp_stop_steps.specs.{Seats.StopRole, Sits.ControlFits, State.Moved, State.Calls, Stop.Inside, Stop.Refills, Stop.Last}
use Rattle.smp_stop_steps.specs.{Stop.Ended, Stop.acked, Tells.tells}

-- what only a step with a note of its own may change: the gate, the works begun, the results collected, interrupts that go
-- on, the readings, and the nudges
pub record Heard : Type 0 where
  pub gate : Option ℕ
  pub begun : ℕ → List Work
  pub collected : ℕ → List ℕ
  pub irq : ℕ → Bool
  pub readings : ℕ → List Reading
  pub nudged : ℕ → ℕ → Moved

abbrev pub heard_of : StopState → Heard
heard_of p = record { gate = p.gate; begun = p.begun; collected = p.collected; irq = p.now.irq; readings = p.now.readings; nudged = p.nudged }

-- nothing of it
abbrev pub IsUnheard : StopState → StopState → Type 0
IsUnheard p q = heard_of q ≡ heard_of p

-- the CPU has read this, and nothing else of it
abbrev pub HasRead : StopState → StopState → ℕ → Reading → Type 0
HasRead p q me reading = heard_of q ≡ record (heard_of p) { readings = put p.now.readings me (p.now.readings me ++ reading ∷ []) }

-- the CPU is in a stop, and this is the phase that it has acknowledged last, and looked at last
pub record HasAcked (q : StopState) (me phase : ℕ) : Type 0 where
  pub slot : ℕ
  pub inside : q.now.inside me ≡ Some slot
  pub stands : (q.now.stop slot).standing me ≡ Inside phase phase

-- the same, and whether it is active there
pub record HasAckedAs (q : StopState) (me phase : ℕ) (active : Bool) : Type 0 where
  pub acked : HasAcked q me phase
  pub active_is : phase ≡ RUN → has (q.now.stop acked.slot).work.active me ≡ active

-- its stop is open, of the work that it has begun last
pub record HasBegun (p q : StopState) (me : ℕ) : Type 0 where
  pub shut : (p.now.stop me).is_open ≡ false
  pub is_open : (q.now.stop me).is_open ≡ true
  pub begun : heard_of q ≡ record (heard_of p) { begun = put p.begun me (p.begun me ++ (q.now.stop me).work ∷ []) }

-- its stop is closed, and this is what it has collected, as an i32
pub record HasCollected (p q : StopState) (me : ℕ) (result : ℤ) : Type 0 where
  pub found : ℕ
  pub collected : heard_of q ≡ record (heard_of p) { collected = put p.collected me (p.collected me ++ found ∷ []) }
  pub shut : (q.now.stop me).is_open ≡ false
  pub as_i32 : result ≡ cast_signed w32 (found % 2 ^ 32)

-- it has acknowledged EXIT, and its interrupts go on; it has read nothing since, but its own key
pub record HasLeft (p q : StopState) (me : ℕ) : Type 0 where
  pub acked : HasAcked q me EXIT
  pub off : p.now.irq me ≡ false
  pub on : heard_of q ≡ record (heard_of p) {
    irq = put p.now.irq me true;
    readings = put p.now.readings me (first_readings me acked.slot (q.now.stop acked.slot).work);
  }

-- it is in no stop: it has counted itself out of one, or, the last to do so, has stored done
pub record HasFinished (p q : StopState) (me : ℕ) : Type 0 where
  pub same : IsUnheard p q
  pub outside : q.now.inside me ≡ None
  pub finished : ((s : ℕ) × (p.now.inside me ≡ Some s)) ⊎ ((s : ℕ) × ((p.now.stop s).ending ≡ Last me) × ((q.now.stop s).ending ≡ Ended))

-- it has moved a key's count by one
pub record HasNudged (p q : StopState) (me : ℕ) : Type 0 where
  pub key : ℕ
  pub found : ℕ
  pub new : ℕ
  pub moved : heard_of q ≡ record (heard_of p) { nudged = moved_by p.nudged me key found new }
  pub one : (new ≡ found + 1) ⊎ (found ≡ new + 1)

-- a step with no note: a look at DISABLE_IRQ turns interrupts off; and the load of a nudge that goes on is a reading
abbrev pub IsSilent : StopState → StopState → ℕ → Type 0
IsSilent p q me = IsUnheard p q ⊎ (heard_of q ≡ record (heard_of p) { irq = put p.now.irq me false }) ⊎
    ((k : ℕ) × (on : Bool) × HasRead p q me (ReadKey k on))

-- of the stop that the CPU was in: it has acknowledged no phase, or is the last to do so and says it once it has set the
-- next one; and it is in it still, or is the last to complete and says it once it has stored done
pub record IsStill (p q : StopState) (me s : ℕ) : Type 0 where
  pub acked : (acked ((q.now.stop s).standing me) ≡ acked ((p.now.stop s).standing me)) ⊎ ((q.now.stop s).raising ≡ Refills me)
  pub inside : (q.now.inside me ≡ Some s) ⊎ ((q.now.stop s).ending ≡ Last me)

abbrev pub StaysStill : StopState → StopState → ℕ → Type 0
StaysStill p q me = (s : ℕ) → p.now.inside me ≡ Some s → IsStill p q me s

-- what a step of the stop half that says this has changed
abbrev pub NoteFits : StopState → StopState → ℕ → Option Note → Type 0
NoteFits p q me None = IsSilent p q me × StaysStill p q me
NoteFits p q me (Some Note.Gate) = (p.gate ≡ None) × (heard_of q ≡ record (heard_of p) { gate = Some me })
NoteFits p q me (Some Note.Taken) = (p.gate ≢ None) × IsUnheard p q
NoteFits p q me (Some Note.Open) = (p.gate ≡ Some me) × (heard_of q ≡ record (heard_of p) { gate = None })
NoteFits p q me (Some Note.Begun) = HasBegun p q me
NoteFits p q me (Some Note.Stale) = (q.now.inside me ≡ None) × IsUnheard p q
NoteFits p q me (Some Note.Entered) = HasAcked q me 0 × IsUnheard p q
NoteFits p q me (Some Note.Same) = ((a : ℕ) × HasAcked q me a) × IsUnheard p q
NoteFits p q me (Some (Note.Moved phase)) = HasAckedAs q me phase false × (phase ≢ EXIT) × IsUnheard p q
NoteFits p q me (Some Note.Ran) = HasAckedAs q me RUN true × IsUnheard p q
NoteFits p q me (Some Note.Left) = HasLeft p q me
NoteFits p q me (Some (Note.Run func arg)) = ((call : StopCall) × (q.calling me ≡ Calls call) × (call.func ≡ func) × (call.arg ≡ arg)) × IsUnheard p q
NoteFits p q me (Some Note.Finished) = HasFinished p q me
NoteFits p q me (Some Note.Pending) = ((p.now.stop me).is_open ≡ true) × ((p.now.stop me).ending ≢ Ended) × IsUnheard p q
NoteFits p q me (Some (Note.Result result)) = HasCollected p q me result
NoteFits p q me (Some Note.On) = (k : ℕ) × HasRead p q me (ReadKey k true)
NoteFits p q me (Some Note.Off) = (k : ℕ) × HasRead p q me (ReadKey k false)
NoteFits p q me (Some Note.Jmp) = (i : ℕ) × HasRead p q me (ReadSite i true)
NoteFits p q me (Some Note.Nop) = (i : ℕ) × HasRead p q me (ReadSite i false)
NoteFits p q me (Some Note.KeyRange) = (k : ℕ) × (on : Bool) × HasRead p q me (ReadKey k on)
NoteFits p q me (Some Note.Stop) = (k : ℕ) × (on : Bool) × HasRead p q me (ReadKey k on)
NoteFits p q me (Some Note.Done) = HasNudged p q me
NoteFits p q me (Some Note.Lost) = IsUnheard p q
NoteFits p q me (Some _) = ⊥

-- the same of each step of a CPU's command
abbrev pub NotesFit : Type 0
NotesFit = (u : Setup) (p : StopState) (at : Word → ℕ) (seat : ℕ → StopRole) (source : ℕ → Source) → StopShows u p at seat source →
    (c : StopControlValue) (me : ℕ) → ControlFits u me (at Gate) c (seat me) (source me) → CarriesIn c (p.calling me) →
    (stage : StopStage) → c.stage ≡ Some stage → NoteFits p (state_after u p at c me stage) me (note_then u at c me stage)

-- of a step as it was seen: one of the call half changes nothing of the stops
abbrev pub StopNoteFits : StopState → StopState → ℕ → Word → Option Note → Type 0
StopNoteFits p q me Gate said = NoteFits p q me said
StopNoteFits p q me (Slot s f) said = NoteFits p q me said
StopNoteFits p q me (Key k) said = NoteFits p q me said
StopNoteFits p q me (Entry i) said = NoteFits p q me said
StopNoteFits p q me (Site i) said = NoteFits p q me said
StopNoteFits p q me _ said = q ≡ p

-- and of each of these steps, with an answer for each
abbrev pub AllNotesFit : Setup → StopState → List Seen → List ℕ → Type 0
AllNotesFit u p (seen ∷ rest) (answer ∷ more) =
    StopNoteFits p (tells u p seen answer) seen.cpu seen.word seen.note × AllNotesFit u (tells u p seen answer) rest more
AllNotesFit u p _ _ = Unit {0}
