use Rattle.std.proofs.Common.{◌≡◌, ◌≤◌, ◌+◌, None, length, IfSome}
use Rattle.trace_page.specs.Windows.{nearest_from}
use Rattle.trace_page.proofs.window.marked.Given as goal

abbrev pub invariant-loop-rest : goal.invariant-loop-rest
invariant-loop-rest l =
    (nearest_from l.line l.best l.place l.rest ≡ nearest_from l.fn.line None 0 l.fn.told)
    × (l.place + length l.rest ≡ length l.fn.told)
    × IfSome l.best (λ c. c.place ≤ l.place)

abbrev pub decreases-loop-rest : goal.decreases-loop-rest
decreases-loop-rest l = length l.rest
