use Rattle.std.proofs.Common.{◌∙◌}
use Rattle.std.specs.List.{flat_map}
use Rattle.std.proofs.lemmas.Iterator.Consumers.{YieldsList-at, YieldsList-end}
use Rattle.smp_mask.specs.Mask.{members}
use Rattle.smp_mask.proofs.Members.{road}
use Rattle.smp_queue.specs.Audit.{tally_at}
use Rattle.smp_run.specs.Text.{pair_text}
use Rattle.smp_run.proofs.Yielding.{all_yielded}
use Rattle.smp_run.proofs.text.write_tally.Goals as goal

pub returns : goal.returns
returns g c =
    let m = c.args.online in
    let from = YieldsList-at (c.into_iter-source-iterator.ensures.into_iter_gives ∙ c.iter-source-items.ensures) (road m) in
    let ended = YieldsList-end from c.loop-source.yielded _ c.loop-source.yielded_by _ _ c.in-None.is c.next.ensures.steps in
    all_yielded (λ source. flat_map (pair_text (tally_at c.args.tally.now.queued) source) (members m)) c.loop-source.yielded (members m) _ _ ended.0
    c.loop-source.invariant
