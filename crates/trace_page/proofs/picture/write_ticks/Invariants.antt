use Rattle.std.proofs.Common.{◌≡◌, ◌+◌, ◌++◌, length, string_bytes}
use Rattle.trace_page.specs.Pictures.{ticks_text}
use Rattle.trace_page.proofs.picture.write_ticks.Given as goal

abbrev pub invariant-loop-rest : goal.invariant-loop-rest
invariant-loop-rest g l =
    (string_bytes l.out ++ ticks_text l.pen.grid.low l.start l.number l.rest
    ≡ string_bytes l.initial.out ++ ticks_text l.fn.pen.grid.low l.fn.start 0 l.fn.events)
    × (l.number + length l.rest ≡ length l.fn.events)

abbrev pub decreases-loop-rest : goal.decreases-loop-rest
decreases-loop-rest g l = length l.rest
