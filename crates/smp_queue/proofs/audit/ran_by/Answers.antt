use Rattle.smp_queue.specs.{Ran}
use Rattle.smp_queue.proofs.TheRule.Cells.{has_cell}
use Rattle.smp_queue.proofs.audit.ran_by.Goals as goal

pub number-requires : goal.number-requires
number-requires g c = has_cell (Ran c.args.cpu c.loop-source.source) (c.requires, c.loop-source-test.true)
