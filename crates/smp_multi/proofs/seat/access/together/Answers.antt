use Rattle.std.proofs.Common.{ap}
use Rattle.smp_multi.specs.Together.{KnowTogether}
use Rattle.smp_multi.proofs.Together.{know_together, of_both}
use Rattle.smp_multi.proofs.seat.access.together.Goals as goal

pub returns-clause-same : goal.returns-clause-same
returns-clause-same c = let e = c.both_now.ensures in
    of_both KnowTogether (ap (λ d. d.known) c.one.view_is) (ap (λ d. d.known) c.other.view_is)
    (know_together {S = Unit {0}} _ e.2.0 _ _ _ _ e.2.1 c.one.invariant.is c.other.invariant.is e.2.2 e.2.3)
