use Rattle.std.proofs.Common.{subst}
use Rattle.smp_queue.specs.Together.{CrowdValue, AreAllTogether, values}
use Rattle.smp_queue.proofs.Together.{are_all_together, run_all}
use Rattle.smp_queue.proofs.table.CallTable.all_together.Goals as goal

pub returns-clause-same : goal.returns-clause-same
returns-clause-same g c =
    subst (λ (v : CrowdValue). AreAllTogether (values v.cpus)) c.crowd.view_is (are_all_together _ _ c.all_together.ensures.same)

pub returns-clause-runs : goal.returns-clause-runs
returns-clause-runs g c = run_all _ (subst (λ (v : CrowdValue). AreAllTogether (values v.cpus)) c.crowd.view_is
    (are_all_together _ _ c.all_together.ensures.same))
