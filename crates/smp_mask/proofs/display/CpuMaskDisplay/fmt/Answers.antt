use Rattle.std.proofs.Common.{sym, ap, ◌∙◌, refl, map-id}
use Rattle.std.proofs.lemmas.Grind.{put_two}
use Rattle.std.proofs.lemmas.Iterator.Consumers.{YieldsList-from_first, YieldsList-end}
use Rattle.smp_mask.specs.ListText.{mask_items}
use Rattle.smp_mask.proofs.Runs.{written}
use Rattle.smp_mask.proofs.display.CpuMaskDisplay.fmt.Goals as goal

pub returns-clause-writes : goal.returns-clause-writes
returns-clause-writes g c = λ plain ok.
    let first = c.in_ok-write.ensures.writes plain refl in
    let rest = c.loop-item.invariant first.plain in
    let came = YieldsList-end (YieldsList-from_first (λ i. i) (λ r. mask_items r.left) _ refl)
    c.loop-item.yielded _ c.loop-item.yielded_by _ _ c.in-None.is c.next-in-loop-item.ensures.steps in
    put_two _ _ c.write.new.self _ _ _ _ first rest
    (written (mask_items c.args.self.now) (mask_items c.next.new.self.left) c.loop-item.yielded c.in-Some.first c.in-Some.ensures.steps
    (sym (map-id c.loop-item.yielded) ∙ (came.0 ∙ ap (λ r. mask_items r.left) c.into_iter-item-iterator.ensures.into_iter_gives)))
