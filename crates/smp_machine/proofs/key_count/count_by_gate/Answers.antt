use Rattle.std.proofs.Common.{true, [], ◌∷◌}
use Rattle.smp_stop_steps.specs.declared.known.OwnMove.TheVariants.{Took}
use Rattle.smp_machine.specs.Moves.{LooksFrom}
use Rattle.smp_machine.proofs.KeyCounts.{counts_after, looks_by_gate}
use Rattle.smp_machine.proofs.key_count.count_by_gate.Goals as goal

pub returns : goal.returns
returns g c =
    let key = c.args.key in
    let hears = g.H.Handler.leads in
    let runs = g.F.StopFunc.leads in
    let t = c.args.context.machine.now.stops in
    counts_after hears runs t key.k key.up true (Took ∷ []) (LooksFrom [] key.k key.up) (LooksFrom (Took ∷ []) key.k key.up)
    (looks_by_gate hears runs t key.k key.up) c.count_at_gate.result c.args.me.now c.take_gate.new.me c.count_at_gate.new.me
    c.args.handler.now c.take_gate.new.handler c.count_at_gate.new.handler c.args.run.now c.take_gate.new.run c.count_at_gate.new.run
    c.take_gate.ensures.works c.count_at_gate.ensures
