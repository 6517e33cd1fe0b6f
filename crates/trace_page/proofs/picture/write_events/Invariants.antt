use Rattle.std.proofs.Common.{◌≡◌, ◌+◌, ◌++◌, length, string_bytes}
use Rattle.trace_ftrace.specs.NamesView.{names_value}
use Rattle.trace_page.specs.Pictures.{events_text}
use Rattle.trace_page.proofs.picture.write_events.Given as goal

abbrev pub invariant-loop-rest : goal.invariant-loop-rest
invariant-loop-rest g l =
    (string_bytes l.out ++ events_text (names_value l.pen.names) l.pen.grid.low l.pen.grid.lanes.now l.number l.rest
    ≡ string_bytes l.initial.out ++ events_text (names_value l.fn.pen.names) l.fn.pen.grid.low l.fn.pen.grid.lanes.now 0 l.fn.events)
    × (l.number + length l.rest ≡ length l.fn.events)

abbrev pub decreases-loop-rest : goal.decreases-loop-rest
decreases-loop-rest g l = length l.rest
