use Rattle.std.proofs.Common.{subst}
use Rattle.smp_multi.specs.Together.{SeatsValue, KnowAllTogether}
use Rattle.smp_multi.proofs.Together.{know_all_together}
use Rattle.smp_multi.proofs.seat.access.crowd.all_together.Goals as goal

pub returns-clause-same : goal.returns-clause-same
returns-clause-same c = let e = c.all_now.ensures.1 in
    subst (λ (v : SeatsValue). KnowAllTogether v.seats) c.crowd.view_is (know_all_together _ e.0 e.1 c.crowd.inside.raw.seats c.crowd.invariant e.2)
