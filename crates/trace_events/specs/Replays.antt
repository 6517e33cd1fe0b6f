-- What is seen of a script's replay.
use Rattle.std.specs.Prelude.{Bool, if◌then◌else◌, List}
use Rattle.std.specs.List.{list_any}
use Rattle.smp_core.specs.New.{new_core}
use Rattle.smp_replay.specs.Output.{labels_or_none}
use Rattle.smp_script.specs.Script.{Script, first_line}
use Rattle.smp_script.specs.declared.outcome.Outcome.{Outcome}
use Rattle.smp_script.specs.declared.outcome.Outcome.TheVariants.{Done, Stopped}
use Rattle.trace_events.specs.declared.rows.Row.{Row}
use Rattle.trace_events.specs.Moments.{moments_of}
use Rattle.trace_events.specs.Rows.{is_refused, rows_of}

-- from a table with no calls and no stops, all keys off
abbrev pub rows_of_script : Script → List Row
rows_of_script script =
    rows_of (new_core script.nr script.online (labels_or_none script.labels)) 0 (moments_of (first_line script.labels) script.directives)

-- an event was refused
abbrev pub has_refused : List Row → Bool
has_refused rows = list_any (λ row. is_refused row.what) rows

-- how a replay ended
abbrev pub ending_of : List Row → Outcome
ending_of rows = if has_refused rows then Stopped else Done
