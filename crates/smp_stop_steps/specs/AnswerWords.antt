-- Answers of stop functions, as words have them: the 32 bits of an i32, from the command to the result that is collected.
use Rattle.std.specs.Int.{w32, cast_signed}
use Rattle.std.specs.Prelude.{◌≡◌, ◌⊎◌, ℕ, ℤ, ◌^◌, ◌<◌, Option, Some, None, FitsSigned}
use Rattle.smp_stop_steps.specs.Names.{word_of, CompletionStage, RoundStage, StopStage, Advance, Complete, Visit, Note, Word, Slot, Command, Field}
use Rattle.smp_stop_steps.specs.Stages.{StopControlValue, StopOutcome, stop_access, stop_outcome, answer_at}
use Rattle.smp_stop_steps.specs.{Start.stop_first, State.Setup, Steps.at_then}

-- the 32 bits of an i32
abbrev pub IsI32Word : ℕ → Type 0
IsI32Word n = n < 2 ^ 32

-- each result word has those of one
abbrev pub AreI32Words : (Word → ℕ) → Type 0
AreI32Words at = (s : ℕ) → IsI32Word (at (Slot s Field.Result))

-- what the function that a turn may still call is to answer
abbrev pub asked_in_turn : RoundStage → Option ℕ
asked_in_turn (RoundStage.Look answer) = Some answer
asked_in_turn (RoundStage.LoadFunc answer) = Some answer
asked_in_turn (RoundStage.LoadArg answer func) = Some answer
asked_in_turn _ = None

-- and that of a stop of kind One
abbrev pub asked_in_completion : CompletionStage → Option ℕ
asked_in_completion (CompletionStage.LoadFunc answer) = Some answer
asked_in_completion (CompletionStage.LoadArg answer func) = Some answer
asked_in_completion _ = None

-- what the function that a CPU may still call is to answer
abbrev pub asked_at : StopStage → Option ℕ
asked_at (Advance v st) = asked_in_turn st
asked_at (Complete v st) = asked_in_completion st
asked_at _ = None

-- the answers of a stage are of i32s: that of its visit, and what its function is to answer, or has answered
abbrev pub TurnFits : RoundStage → Type 0
TurnFits (RoundStage.Look answer) = IsI32Word answer
TurnFits (RoundStage.LoadFunc answer) = IsI32Word answer
TurnFits (RoundStage.LoadArg answer func) = IsI32Word answer
TurnFits (RoundStage.Acknowledge answer ran) = IsI32Word answer
TurnFits _ = Unit {0}

abbrev pub CompletionFits : CompletionStage → Type 0
CompletionFits (CompletionStage.LoadFunc answer) = IsI32Word answer
CompletionFits (CompletionStage.LoadArg answer func) = IsI32Word answer
CompletionFits _ = Unit {0}

abbrev pub AnswersFit : StopStage → Type 0
AnswersFit (Advance v st) = IsI32Word v.answer × TurnFits st
AnswersFit (Complete v st) = IsI32Word v.answer × CompletionFits st
AnswersFit _ = Unit {0}

abbrev pub StageFits : Option StopStage → Type 0
StageFits None = Unit {0}
StageFits (Some stage) = AnswersFit stage

abbrev pub VisitFits : Option Visit → Type 0
VisitFits None = Unit {0}
VisitFits (Some v) = IsI32Word v.answer

-- so are those that a CPU has where it is
pub record HasI32Answers (c : StopControlValue) : Type 0 where
  pub visit : VisitFits c.visit
  pub stage : StageFits c.stage

-- what the function is to answer is as it was, until it is called
abbrev pub IsKept : StopStage → Option StopStage → Type 0
IsKept stage None = Unit {0}
IsKept stage (Some next) = (asked_at next ≡ asked_at stage) ⊎ (asked_at next ≡ None)

-- a function that is called gives that answer, and what is collected is the word of the result that the step says
abbrev pub NoteAnswers : StopStage → ℕ → Option Note → Type 0
NoteAnswers stage found (Some (Note.Run func arg)) = (asked_at stage ≡ Some (answer_at stage)) × IsI32Word (answer_at stage)
NoteAnswers stage found (Some (Note.Result result)) = IsI32Word found × (cast_signed w32 found ≡ result)
NoteAnswers stage found _ = Unit {0}

-- what follows a step that finds this number
pub record AnswersGo (stage : StopStage) (found : ℕ) (x : StopOutcome) : Type 0 where
  pub control : HasI32Answers x.control
  pub kept : IsKept stage x.control.stage
  pub note : NoteAnswers stage found x.note

pub record KeepsAnswers (u : Setup) (at : Word → ℕ) (c : StopControlValue) (me : ℕ) (stage : StopStage) : Type 0 where
  pub words : AreI32Words (at_then u at c me stage)
  pub goes : let found = at (word_of (stop_access u.cpus me c.changes stage)) in AnswersGo stage found (stop_outcome me c stage found)

-- of each step of a CPU's command
abbrev pub AnswersAreI32s : Type 0
AnswersAreI32s = (u : Setup) (at : Word → ℕ) → AreI32Words at → (c : StopControlValue) (me : ℕ) → HasI32Answers c →
    (stage : StopStage) → c.stage ≡ Some stage → KeepsAnswers u at c me stage

-- a command with an answer begins with the word of that answer
abbrev pub BeginsWith : ℤ → Option StopStage → Type 0
BeginsWith answer None = ⊥
BeginsWith answer (Some stage) = (word : ℕ) × (asked_at stage ≡ Some word) × IsI32Word word × (cast_signed w32 word ≡ answer)

abbrev pub AnswersAreTaken : Type 0
AnswersAreTaken = (c : StopControlValue) (v : Visit) (answer : ℤ) → c.visit ≡ Some v → FitsSigned w32 answer →
    BeginsWith answer (stop_first c (Command.Advance answer)) × BeginsWith answer (stop_first c (Command.RunOne answer))
