use Rattle.smp_queue.proofs.Handling.Entering.{enter_ready, accept_ready}
use Rattle.smp_queue.proofs.handle.enter.Goals as goal

pub store-requires : goal.store-requires
store-requires c = enter_ready _ _ c.args.seat.now _ c.requires

pub swap-requires : goal.swap-requires
swap-requires c = let e = c.store.ensures in accept_ready _ _ _ _ c.requires e.table e.lives e.known
