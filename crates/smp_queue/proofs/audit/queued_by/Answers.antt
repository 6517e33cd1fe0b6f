use Rattle.smp_queue.specs.{Queued}
use Rattle.smp_queue.proofs.TheRule.Cells.{has_cell}
use Rattle.smp_queue.proofs.audit.queued_by.Goals as goal

pub number-requires : goal.number-requires
number-requires g c = has_cell (Queued c.args.source c.loop-to.to) (c.requires, c.loop-to-test.true)
