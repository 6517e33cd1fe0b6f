use Rattle.crossbeam_queue.specs.Passes.{view}
use Rattle.smp_machine.proofs.Moves as moves
use Rattle.smp_machine.proofs.Held.{takes_are}
use Rattle.smp_machine.proofs.stoppers.Stoppers.take.Goals as goal

pub pop_as-requires-clause-rule : goal.pop_as-requires-clause-rule
pop_as-requires-clause-rule g c =
    let is = takes_are (view c.me.inside.own) c.me.invariant.own_takes in
    (moves.takes _ _ _ _ is.1, λ items views h at. tt)
