use Rattle.smp_multi.specs.Together.{AreTogether}
use Rattle.smp_multi.proofs.Together.{are_together, in_step, of_both, waits_for}
use Rattle.smp_multi.proofs.table.StopTable.together.Goals as goal

pub returns-clause-same : goal.returns-clause-same
returns-clause-same g c = of_both AreTogether c.one.view_is c.other.view_is (are_together _ _ c.together.ensures.same)

pub returns-clause-step : goal.returns-clause-step
returns-clause-step g c = in_step _ _ (of_both AreTogether c.one.view_is c.other.view_is (are_together _ _ c.together.ensures.same))

pub returns-clause-waits : goal.returns-clause-waits
returns-clause-waits g c = waits_for _ _ (of_both AreTogether c.one.view_is c.other.view_is (are_together _ _ c.together.ensures.same))
