use Rattle.smp_queue.proofs.Handling.Entering.{leave_ready}
use Rattle.smp_queue.proofs.handle.leave.Goals as goal

pub store-requires : goal.store-requires
store-requires c = let h = c.requires.at in leave_ready _ _ c.args.seat.now _ h.0 h.1 h.2 c.requires.me
