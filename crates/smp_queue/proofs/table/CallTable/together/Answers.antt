use Rattle.smp_queue.specs.Together.{AreTogether}
use Rattle.smp_queue.proofs.Together.{are_together, of_both, runs_what_is_sent, turned}
use Rattle.smp_queue.proofs.table.CallTable.together.Goals as goal

pub returns-clause-same : goal.returns-clause-same
returns-clause-same g c = of_both AreTogether c.one.view_is c.other.view_is (are_together _ _ c.together.ensures.same)

pub returns-clause-runs : goal.returns-clause-runs
returns-clause-runs g c =
    let t = of_both AreTogether c.one.view_is c.other.view_is (are_together _ _ c.together.ensures.same) in
    (runs_what_is_sent _ _ t, runs_what_is_sent _ _ (turned _ _ t))
