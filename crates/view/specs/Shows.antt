-- What a call reads and writes that shows a replay as a table, as a picture or in the trace-event format.
use Rattle.std.specs.Prelude.{◌≡◌, ℕ, List, Ok}
use Rattle.smp_script.specs.Script.{Script, script_of}
use Rattle.smp_script.specs.Transforms.{HasFault, Transforming, Transforms}
use Rattle.smp_script.specs.declared.mode.Mode.TheVariants.{Replay}
use Rattle.smp_script.specs.declared.outcome.Outcome.{Outcome}
use Rattle.trace_events.specs.Replays.{ending_of, rows_of_script}

-- The text is a lawful script, and its replay ended so; nothing is said of the bytes that are shown.
pub record IsShown (text out : List ℕ) (ending : Outcome) : Type 0 where
  pub script : Script
  pub lawful : script_of Replay text ≡ Ok script
  pub ended : ending ≡ ending_of (rows_of_script script)

-- What a call of `show_lanes`, `show_svg` or `show_json` did, by its answer: what was read is a script, and some bytes were written.
abbrev pub Shows : Transforming Outcome
Shows = Transforms 65536 IsShown (HasFault Replay)
