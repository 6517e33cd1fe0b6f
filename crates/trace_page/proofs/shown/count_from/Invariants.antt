use Rattle.std.proofs.Common.{◌≡◌, ◌+◌, length}
use Rattle.trace_page.specs.Shown.{shown_count}
use Rattle.trace_page.proofs.shown.count_from.Given as goal

abbrev pub invariant-loop-rest : goal.invariant-loop-rest
invariant-loop-rest g l = (l.count + shown_count l.rest l.state ≡ shown_count l.fn.told l.initial.state) × (l.count + length l.rest ≡ length l.fn.told)

abbrev pub decreases-loop-rest : goal.decreases-loop-rest
decreases-loop-rest g l = length l.rest
