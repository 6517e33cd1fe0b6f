-- The trace of a replay, and what a call of `show_events` reads and writes.
use Rattle.std.specs.Prelude.{◌≡◌, ℕ, List, [], ◌∷◌, ◌++◌, is_some, Ok}
use Rattle.std.specs.List.{flat_map}
use Rattle.smp_script.specs.Lines.{lines_of}
use Rattle.smp_script.specs.Script.{Script, script_of}
use Rattle.smp_script.specs.Transforms.{HasFault, Transforming, Transforms}
use Rattle.smp_script.specs.declared.mode.Mode.TheVariants.{Replay}
use Rattle.smp_script.specs.declared.outcome.Outcome.{Outcome}
use Rattle.smp_words.specs.declared.seen.Seen.{Seen}
use Rattle.trace_events.specs.Front.{front_text}
use Rattle.trace_events.specs.Traces.{all_fresh, events_of, lines_text}
use Rattle.trace_events.specs.Replays.{ending_of, rows_of_script}
use Rattle.trace_events.specs.declared.rows.Row.{Row}
use Rattle.trace_events.specs.declared.rows.What.{What}
use Rattle.trace_events.specs.declared.rows.What.TheVariants.{Stepped}

-- the step that was seen, where it is one
abbrev pub step_in : What → List Seen
step_in (Stepped seen) = seen ∷ []
step_in _ = []

-- the steps of a replay
abbrev pub steps_of : List Row → List Seen
steps_of rows = flat_map (λ row. step_in row.what) rows

-- the trace of a script, of which this is the text: the events that the steps of its replay tell
abbrev pub trace_of : List ℕ → Script → List ℕ
trace_of text script =
    front_text (is_some script.labels) (lines_of text) ++ lines_text (events_of all_fresh (steps_of (rows_of_script script)))

-- The text is a lawful script, this is its trace, and its replay ended so.
pub record IsTraced (text out : List ℕ) (ending : Outcome) : Type 0 where
  pub script : Script
  pub lawful : script_of Replay text ≡ Ok script
  pub traced : out ≡ trace_of text script
  pub ended : ending ≡ ending_of (rows_of_script script)

-- What a call of `show_events` did, by its answer: what was read is a script, and what was written is its trace.
abbrev pub Traces : Transforming Outcome
Traces = Transforms 65536 IsTraced (HasFault Replay)
