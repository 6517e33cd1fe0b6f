-- One step of the stop half of a machine, and what every such half keeps.
use Rattle.std.specs.Prelude.{◌≡◌, ℕ, ◌≤◌, Option, Some, List, length, slice_set}
use Rattle.smp_labels.specs.Labels.{Labels}
use Rattle.smp_stop_steps.specs.Names.{cpus, word_of, seen_of, Access, Seen, StopStage, Slot, OVER, Field}
use Rattle.smp_stop_steps.specs.Value.{StopsValue, StopShown, StopsShow, IsStopTable, setup_of, stop_control_of}
use Rattle.smp_stop_steps.specs.{AnswerWords.AreI32Words, AnswerWords.HasI32Answers, State.StopState, Tells.tells, Stages.StopControlValue, Stages.StopOutcome}
use Rattle.smp_stop_steps.specs.{Stages.stop_access, Stages.stop_outcome, Stages.answer_at, Table.StopWords, Table.stop_number, Table.stop_words_after}

-- the access that a CPU makes at this stage, and what it finds
abbrev pub stop_access_at : StopsValue → ℕ → StopStage → Access
stop_access_at v cpu stage = stop_access cpus cpu (stop_control_of v.controls cpu).changes stage

abbrev pub stop_found_at : StopsValue → ℕ → StopStage → ℕ
stop_found_at v cpu stage = stop_number v.table (word_of (stop_access_at v cpu stage))

-- what follows a step that finds this number
abbrev pub moved_on : List StopControlValue → ℕ → ℕ → StopStage → StopOutcome
moved_on controls cpu found stage = stop_outcome cpu (stop_control_of controls cpu) stage found

-- what is seen of the step
abbrev pub stop_seen_at : StopsValue → ℕ → StopStage → Seen
stop_seen_at v cpu stage = let found = stop_found_at v cpu stage in
    seen_of cpu (stop_access_at v cpu stage) found (stop_outcome cpu (stop_control_of v.controls cpu) stage found).note

-- the half after it
abbrev pub stop_stepped : StopsValue → ℕ → StopStage → StopsValue
stop_stepped v cpu stage = record v {
  table = stop_words_after v.table (stop_access_at v cpu stage);
  controls = slice_set v.controls cpu (stop_outcome cpu (stop_control_of v.controls cpu) stage (stop_found_at v cpu stage)).control;
}

-- it is made and seen
abbrev pub IsStepOf : StopsValue → ℕ → StopStage → Option Seen → StopsValue → Type 0
IsStepOf old cpu stage seen new = (seen ≡ Some (stop_seen_at old cpu stage)) × (new ≡ stop_stepped old cpu stage)

-- whatever stops the half showed, it now shows those that the step tells
abbrev pub StopTold : StopsValue → ℕ → StopStage → StopsValue → Type 0
StopTold old cpu stage new = (p : StopState) → StopShown p old → StopShown (tells (setup_of old.online old.labels) p (stop_seen_at old cpu stage)
    (answer_at stage)) new

-- the table is whole, no state word is more than OVER, each CPU has a control, results and answers are of i32s, and they show
-- some stops
pub record AreSoundStops (online : ℕ) (labels : Labels) (table : StopWords) (controls : List StopControlValue) : Type 0 where
  pub sized : length controls ≡ cpus
  pub table_is : IsStopTable table
  pub phases : (s : ℕ) → stop_number table (Slot s Field.State) ≤ OVER
  pub results : AreI32Words (stop_number table)
  pub answers : (cpu : ℕ) → HasI32Answers (stop_control_of controls cpu)
  pub stops : StopState
  pub shown : StopsShow (setup_of online labels) stops table controls

-- the same, of a stop half
abbrev pub IsSoundHalf : StopsValue → Type 0
IsSoundHalf v = AreSoundStops v.online v.labels v.table v.controls
