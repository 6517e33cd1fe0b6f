use Rattle.std.proofs.Common.{◌≡◌, ◌≤◌, ◌+◌, length}
use Rattle.trace_page.specs.Links.{closing}
use Rattle.trace_page.proofs.links.closing.Given as goal

abbrev pub invariant-loop-rest : goal.invariant-loop-rest
invariant-loop-rest l =
    (closing l.link l.place l.rest ≡ closing l.fn.link l.fn.number l.fn.events)
    × (l.place + length l.rest ≡ l.fn.number + length l.fn.events)
    × (l.fn.number ≤ l.place)

abbrev pub decreases-loop-rest : goal.decreases-loop-rest
decreases-loop-rest l = length l.rest
