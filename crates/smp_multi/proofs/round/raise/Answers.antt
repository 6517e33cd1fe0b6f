use Rattle.std.proofs.Common.{ap, ◌+◌}
use Rattle.smp_multi.proofs.Turning.{ready_refill, ready_raise, turn_filled}
use Rattle.smp_multi.proofs.round.raise.Goals as goal

pub store-requires : goal.store-requires
store-requires c = ready_refill _ _ c.args.visit _ c.requires.at c.weight.ensures

pub store-requires-2 : goal.store-requires-2
store-requires-2 c =
    let filled = turn_filled _ _ c.store.new.seat c.args.visit c.weight.result c.requires.at c.store.ensures.table c.store.ensures.known in
    ready_raise _ _ c.args.visit _ filled.1 (ap (λ n. n + 1) c.from-next.ensures)
