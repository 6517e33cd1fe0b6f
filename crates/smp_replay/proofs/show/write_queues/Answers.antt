use Rattle.std.proofs.Common.{◌∙◌}
use Rattle.std.proofs.lemmas.Iterator.Consumers.{YieldsList-at, YieldsList-end}
use Rattle.smp_mask.specs.Mask.{members}
use Rattle.smp_mask.proofs.Members.{road}
use Rattle.smp_replay.specs.Showing.{queue_text}
use Rattle.smp_replay.proofs.Showings.{all_yielded}
use Rattle.smp_replay.proofs.show.write_queues.Goals as goal

pub returns : goal.returns
returns g c =
    let m = c.args.core.now.online in
    let from = YieldsList-at (c.into_iter-cpu-iterator.ensures.into_iter_gives ∙ c.iter-cpu-items.ensures ∙ c.online.ensures) (road m) in
    let ended = YieldsList-end from c.loop-cpu.yielded _ c.loop-cpu.yielded_by _ _ c.in-None.is c.next.ensures.steps in
    all_yielded (queue_text c.args.core.now) c.loop-cpu.yielded (members m) _ _ ended.0 c.loop-cpu.invariant
