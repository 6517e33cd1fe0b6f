use Rattle.std.proofs.Common.{ap}
use Rattle.smp_queue.specs.Together.{KnowTogether}
use Rattle.smp_queue.proofs.Together.{know_together, of_both}
use Rattle.smp_queue.proofs.seat.access.together.Goals as goal

pub returns-clause-same : goal.returns-clause-same
returns-clause-same c = let e = c.both_now.ensures in
    of_both KnowTogether (ap (λ d. d.known) c.one.view_is) (ap (λ d. d.known) c.other.view_is)
    (know_together {S = Unit {0}} _ e.2.0 _ _ _ _ e.2.1 c.one.invariant.0 c.other.invariant.0 e.2.2 e.2.3)
