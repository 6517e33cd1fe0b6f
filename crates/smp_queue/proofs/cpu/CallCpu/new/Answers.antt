use Rattle.smp_queue.proofs.Posts.Kept.{kept_fresh}
use Rattle.smp_queue.proofs.cpu.CallCpu.new.Goals as goal

pub invariant_of-result : goal.invariant_of-result
invariant_of-result c = kept_fresh c.args.seat.known c.args.number c.requires.fresh c.requires.below c.requires.online
