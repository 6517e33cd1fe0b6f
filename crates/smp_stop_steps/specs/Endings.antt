-- Where a command of the stop half ends, and what the note of each step is.
use Rattle.std.specs.Int.{w32, cast_signed}
use Rattle.std.specs.Prelude.{◌≡◌, ◌≢◌, ℕ, ◌+◌, ◌%◌, ◌^◌, ◌<◌, ◌≤◌, ◌==◌, Bool, true, false, ◌||◌, not, nat_lt, Option, Some, None}
use Rattle.smp_words.specs.Commands.{Either, Follows}
use Rattle.smp_stop_steps.specs.{Stages.StopControlValue, Stages.stop_outcome, Tells.is_multi}
use Rattle.smp_stop_steps.specs.Names.{has, Note, StopStage, TakeGate, OpenGate, Begin, Enter, EnterKind, EnterMask, EnterActive, Advance, Complete, Close}
use Rattle.smp_stop_steps.specs.Names.{EXIT}
use Rattle.smp_stop_steps.specs.Names.{LoadDone, LoadResult, NudgeKey, ExchangeKey, Visit}
use Rattle.smp_stop_steps.specs.declared.stage.StopStage.TheVariants.{ReadKey, ReadSite}
use Rattle.smp_stop_steps.specs.Names.field
use Rattle.smp_stop_steps.specs.Names.note
use Rattle.smp_stop_steps.specs.Names.round
use Rattle.smp_stop_steps.specs.Names.completion

-- a nudge ends with its load: up at a count of 0 or at least 65535, down at a count of 0 or 1
abbrev pub nudge_ends : Bool → ℕ → Bool
nudge_ends true found = found == 0 || not (nat_lt found 65535)
nudge_ends false found = found == 0 || found == 1

-- A command ends here: each try of the gate, the gate given up, the last store of a begin, an enter without the own bit and one that
-- has loaded all, a turn that finds its phase again, one that has acknowledged and is not the last, one that has stored a phase,
-- a completion that is not the last, the store of done, a poll that finds 0, a result, a reading, a nudge that may not go on, an exchange.
abbrev pub ends_here : ℕ → StopStage → ℕ → Bool
ends_here me TakeGate found = true
ends_here me OpenGate found = true
ends_here me (Begin work field.Roll) found = true
ends_here me (Enter slot) found = not (has found me)
ends_here me (EnterActive slot kind mask) found = true
ends_here me (Advance v (round.Look answer)) found = found == v.acked
ends_here me (Advance v (round.Acknowledge answer ran)) found = not (found == 1)
ends_here me (Advance v (round.Raise ran)) found = true
ends_here me (Complete v completion.CountDown) found = not (found == 1)
ends_here me (Close slot) found = true
ends_here me LoadDone found = found == 0
ends_here me LoadResult found = true
ends_here me (ReadKey k) found = true
ends_here me (ReadSite i) found = true
ends_here me (NudgeKey k up) found = nudge_ends up found
ends_here me (ExchangeKey k expected new) found = true
ends_here me _ found = false

-- the step after it is one of the same command: of the same work, of the same stop, or of the same key
abbrev pub IsSameCommand : StopStage → StopStage → Type 0
IsSameCommand (Begin work f) (Begin next g) = next ≡ work
IsSameCommand (Enter slot) (EnterKind next) = next ≡ slot
IsSameCommand (EnterKind slot) (EnterMask next kind) = next ≡ slot
IsSameCommand (EnterMask slot kind) (EnterActive next k mask) = (next ≡ slot) × (k ≡ kind)
IsSameCommand (Advance v stage) (Advance w next) = w.slot ≡ v.slot
IsSameCommand (Complete v stage) (Complete w next) = w.slot ≡ v.slot
IsSameCommand (Complete v completion.CountDown) (Close slot) = slot ≡ v.slot
IsSameCommand LoadDone LoadResult = Unit {0}
IsSameCommand (NudgeKey k up) (ExchangeKey j expected new) = j ≡ k
IsSameCommand _ _ = ⊥

abbrev pub CommandsEndSo : Type 0
CommandsEndSo = (me : ℕ) (c : StopControlValue) (stage : StopStage) (found : ℕ) →
    Follows IsSameCommand stage (ends_here me stage found) (stop_outcome me c stage found).control.stage

-- the note of a turn that has acknowledged this phase: phase 4 is EXIT
pub record SaysPhase (phase : ℕ) (ran : Bool) (said : Option Note) : Type 0 where
  pub left : phase ≡ EXIT → said ≡ Some note.Left
  pub stays : phase ≢ EXIT → Either ran said (Some note.Ran) (Some (note.Moved phase))

-- the note of the load of a nudge, up or down: none where it goes on
pub record SaysUp (found : ℕ) (said : Option Note) : Type 0 where
  pub turns : found ≡ 0 → said ≡ Some note.Stop
  pub full : 65535 ≤ found → said ≡ Some note.KeyRange
  pub goes : 0 < found → found < 65535 → said ≡ None

pub record SaysDown (found : ℕ) (said : Option Note) : Type 0 where
  pub zero : found ≡ 0 → said ≡ Some note.KeyRange
  pub turns : found ≡ 1 → said ≡ Some note.Stop
  pub goes : 1 < found → said ≡ None

-- The note of each step, by the number that it found. No note is of two kinds of command: `taken` is of the gate, `lost` and `done` of
-- an exchange of a key, `same`, `moved`, `ran` and `left` of a turn, `stale` and `entered` of an enter, `pending` of a poll.
abbrev pub SaysOf : ℕ → StopStage → ℕ → Option Note → Type 0
SaysOf me TakeGate found said = Either (found == 0) said (Some note.Gate) (Some note.Taken)
SaysOf me OpenGate found said = said ≡ Some note.Open
SaysOf me (Begin work field.Roll) found said = said ≡ Some note.Begun
SaysOf me (Enter slot) found said = Either (has found me) said None (Some note.Stale)
SaysOf me (EnterActive slot kind mask) found said = said ≡ Some note.Entered
SaysOf me (Advance v (round.Look answer)) found said = Either (found == v.acked) said (Some note.Same) None
SaysOf me (Advance v (round.LoadArg answer func)) found said = Either (is_multi v.kind) said (Some (note.Run func found)) None
SaysOf me (Advance v (round.Acknowledge answer ran)) found said = (found ≡ 1 → said ≡ None) × (found ≢ 1 → SaysPhase (v.acked + 1) ran said)
SaysOf me (Advance v (round.Raise ran)) found said = SaysPhase v.acked ran said
SaysOf me (Complete v (completion.LoadArg answer func)) found said = said ≡ Some (note.Run func found)
SaysOf me (Complete v completion.CountDown) found said = Either (found == 1) said None (Some note.Finished)
SaysOf me (Close slot) found said = said ≡ Some note.Finished
SaysOf me LoadDone found said = Either (found == 0) said (Some note.Pending) None
SaysOf me LoadResult found said = said ≡ Some (note.Result (cast_signed w32 (found % 2 ^ 32)))
SaysOf me (ReadKey k) found said = Either (found == 0) said (Some note.Off) (Some note.On)
SaysOf me (ReadSite i) found said = Either (found == 0) said (Some note.Nop) (Some note.Jmp)
SaysOf me (NudgeKey k true) found said = SaysUp found said
SaysOf me (NudgeKey k false) found said = SaysDown found said
SaysOf me (ExchangeKey k expected new) found said = Either (found == expected) said (Some note.Done) (Some note.Lost)
SaysOf me _ found said = said ≡ None

abbrev pub NotesAreOfTheFound : Type 0
NotesAreOfTheFound = (me : ℕ) (c : StopControlValue) (stage : StopStage) (found : ℕ) → SaysOf me stage found (stop_outcome me c stage found).note

-- the CPU has acknowledged one phase more of its stop
pub record AcksOneMore (v : Visit) (next : Option Visit) : Type 0 where
  pub visit : Visit
  pub is : next ≡ Some visit
  pub one_more : visit.acked ≡ v.acked + 1
  pub same_slot : visit.slot ≡ v.slot

-- a turn acknowledges one phase by its subtraction, and none by any other step
abbrev pub AcksThere : StopStage → Option Visit → Option Visit → Type 0
AcksThere (Advance v (round.Acknowledge answer ran)) before after = AcksOneMore v after
AcksThere (Advance v _) before after = after ≡ before
AcksThere _ before after = Unit {0}

abbrev pub PhasesAreAckedOnce : Type 0
PhasesAreAckedOnce = (me : ℕ) (c : StopControlValue) (stage : StopStage) (found : ℕ) →
    AcksThere stage c.visit (stop_outcome me c stage found).control.visit
