use Rattle.std.proofs.Common.{◌∙◌, sym}
use Rattle.std.proofs.lemmas.Iterator.Consumers.{YieldsList-at, YieldsList-end}
use Rattle.std.proofs.lemmas.List.{map-id}
use Rattle.smp_mask.proofs.Members.{road}
use Rattle.view.proofs.lanes.columns.Goals as goal

pub returns : goal.returns
returns g c =
    let m = c.args.online in
    let from = YieldsList-at (c.into_iter-cpu-iterator.ensures.into_iter_gives ∙ c.iter-cpu-items.ensures) (road m) in
    let ended = YieldsList-end from c.loop-cpu.yielded _ c.loop-cpu.yielded_by _ _ c.in-None.is c.next.ensures.steps in
    c.loop-cpu.invariant ∙ (sym (map-id c.loop-cpu.yielded) ∙ ended.0)
