-- One step of a core: what it does to the words, what is seen of it, and where the CPU is after it.
use Rattle.std.specs.Prelude.{ℕ, Bool, true, false, Option, Some, None, [], ◌∷◌, slice_set}
use Rattle.smp_words.specs.Layout.{number_in}
use Rattle.smp_words.specs.Access.{word_of, words_after, seen_of}
use Rattle.smp_call_steps.specs.Stages.{access_of, outcome_of, control_after}
use Rattle.smp_core.specs.Value.{CoreValue}
use Rattle.smp_call_steps.specs.Value.{control_of}
use Rattle.smp_call_steps.specs.Calls.{CallState}
use Rattle.smp_call_steps.specs.Calls as calls
use Rattle.smp_call_steps.specs.Functions.{SaysWhatBegins}
use Rattle.smp_core.specs.Value.{Shown}
use Rattle.smp_stop_steps.specs.Machine.{stop_seen_at, stop_stepped}
use Rattle.smp_stop_steps.specs.Notes.{StopNoteFits}
use Rattle.smp_stop_steps.specs.Stages.{answer_at}
use Rattle.smp_stop_steps.specs.State.{Setup, StopState}
use Rattle.smp_stop_steps.specs.Tells as stops
use Rattle.smp_stop_steps.specs.Value.{StopShown, setup_of, stop_control_of}
use Rattle.smp_stop_steps.specs.declared.stage.StopStage.{StopStage}
use Rattle.smp_words.specs.declared.seen.Seen.{Seen}
use Rattle.smp_call_steps.specs.declared.stage.Stage.{Stage}

-- what the CPU's step at this stage finds
abbrev pub found_at : CoreValue → ℕ → Stage → ℕ
found_at core cpu stage = number_in core.words (word_of (access_of (number_in core.words) cpu stage))

-- what is seen of it
abbrev pub seen_at : CoreValue → ℕ → Stage → Seen
seen_at core cpu stage =
    let found = found_at core cpu stage in
    seen_of cpu (access_of (number_in core.words) cpu stage) found (outcome_of (control_of core.controls cpu).drain stage found).note

-- the core after it
abbrev pub stepped : CoreValue → ℕ → Stage → CoreValue
stepped core cpu stage = record core {
  words = words_after core.words (access_of (number_in core.words) cpu stage);
  controls = slice_set core.controls cpu (control_after (control_of core.controls cpu) stage (found_at core cpu stage));
}

-- the same for a stage of the stop half
abbrev pub stops_stepped : CoreValue → ℕ → StopStage → CoreValue
stops_stepped core cpu stage = record core { stops = stop_stepped core.stops cpu stage }

-- a CPU's step: what is seen of it, the core after it, and what the CPU's function answers, where the step loads its
-- argument
pub record Stepped : Type 0 where
  pub seen : Seen
  pub core : CoreValue
  pub answer : ℕ

abbrev pub call_step : CoreValue → ℕ → Stage → Stepped
call_step core cpu stage = record { seen = seen_at core cpu stage; core = stepped core cpu stage; answer = 0 }

abbrev pub stop_step : CoreValue → ℕ → StopStage → Stepped
stop_step core cpu stage = record { seen = stop_seen_at core.stops cpu stage; core = stops_stepped core cpu stage; answer = answer_at stage }

-- of a CPU at such a place: none outside a command
abbrev pub step_at : CoreValue → ℕ → Option Stage → Option StopStage → Option Stepped
step_at core cpu (Some stage) _ = Some (call_step core cpu stage)
step_at core cpu None (Some stage) = Some (stop_step core cpu stage)
step_at core cpu None None = None

abbrev pub step_of : CoreValue → ℕ → Option Stepped
step_of core cpu = step_at core cpu (control_of core.controls cpu).stage (stop_control_of core.stops.controls cpu).stage

-- whether a CPU is inside a command, of either half
abbrev pub is_inside_at : Option Stage → Option StopStage → Bool
is_inside_at (Some stage) _ = true
is_inside_at None (Some stage) = true
is_inside_at None None = false

abbrev pub is_inside : CoreValue → ℕ → Bool
is_inside core cpu = is_inside_at (control_of core.controls cpu).stage (stop_control_of core.stops.controls cpu).stage

-- what the stop half of a core is made with
abbrev pub setup_in : CoreValue → Setup
setup_in core = setup_of core.stops.online core.stops.labels

-- whatever calls and stops the old core showed, the new one shows those that the step tells
abbrev pub CallsTold : CoreValue → Seen → CoreValue → Type 0
CallsTold old seen new = (a : CallState) → Shown a old → Shown (calls.tells a seen) new

-- the function call that the step says, if any, is the call that begins
abbrev pub CallsSaid : CoreValue → Seen → Type 0
CallsSaid old seen = (a : CallState) → Shown a old → SaysWhatBegins a (seen ∷ []) (calls.tells a seen)

abbrev pub StopsTold : CoreValue → Seen → ℕ → CoreValue → Type 0
StopsTold old seen answer new = (p : StopState) → StopShown p old.stops → StopShown (stops.tells (setup_in old) p seen answer) new.stops

-- and the step's note says what it has changed of the stops
abbrev pub StopNotesFit : CoreValue → Seen → ℕ → Type 0
StopNotesFit old seen answer =
    (p : StopState) → StopShown p old.stops → StopNoteFits p (stops.tells (setup_in old) p seen answer) seen.cpu seen.word seen.note
