use Rattle.std.proofs.Common.{subst}
use Rattle.smp_multi.specs.Together.{CrowdValue, AreAllTogether, values}
use Rattle.smp_multi.proofs.Together.{are_all_together, all_in_step, all_wait_for}
use Rattle.smp_multi.proofs.table.StopTable.all_together.Goals as goal

pub returns-clause-same : goal.returns-clause-same
returns-clause-same g c =
    subst (λ (v : CrowdValue). AreAllTogether (values v.cpus)) c.crowd.view_is (are_all_together _ _ c.all_together.ensures.same)

pub returns-clause-step : goal.returns-clause-step
returns-clause-step g c = all_in_step _ (subst (λ (v : CrowdValue). AreAllTogether (values v.cpus)) c.crowd.view_is
    (are_all_together _ _ c.all_together.ensures.same))

pub returns-clause-waits : goal.returns-clause-waits
returns-clause-waits g c = all_wait_for _ (subst (λ (v : CrowdValue). AreAllTogether (values v.cpus)) c.crowd.view_is
    (are_all_together _ _ c.all_together.ensures.same))
