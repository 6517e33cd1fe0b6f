use Rattle.std.proofs.Common.{◌<◌, List, None, Some, length, slice_index_or, ap, sym, subst, ◌∙◌}
use Rattle.smp_labels.specs.declared.patch.Place.TheVariants.{Key}
use Rattle.smp_stop_steps.specs.Threads.KnownAfter.{known_told}
use Rattle.smp_stop_steps.specs.Labels.{Change}
use Rattle.smp_multi.specs.Names.{Word, Store}
use Rattle.smp_multi.specs.Names.act
use Rattle.smp_multi.specs.Seat.{Able}
use Rattle.smp_multi.proofs.Patching.{able_store, stored_more}
use Rattle.smp_multi.proofs.seat.patch_steps.store_plan.Goals as goal

pub store_any-requires : goal.store_any-requires
store_any-requires c =
    let i = c.loop-place.invariant in
    let index = c.loop-place.place-index in
    let items = c.as_slice-place-items.ensures.value ∙ sym c.requires.plan in
    let change = slice_index_or c.as_slice-place-items.result.now index (Key 0, 0) in
    let low = subst (λ (l : List Change). index < length l) items c.loop-place-test.true in
    subst (λ (x : Word). Able c.args.words.shared.now.table_id c.loop-place.seat (Store x change.1)) (sym c.word_of.ensures)
    (able_store _ c.args.seat.now c.args.visit c.requires.at c.requires.fresh c.loop-place.seat index change i.table i.lives i.known low
    (ap (λ (l : List Change). slice_index_or l index (Key 0, 0)) items))

pub loop-place-preserved : goal.loop-place-preserved
loop-place-preserved c =
    let i = c.loop-place.invariant in
    let index = c.loop-place.place-index in
    let items = c.as_slice-place-items.ensures.value ∙ sym c.requires.plan in
    let change = slice_index_or c.as_slice-place-items.result.now index (Key 0, 0) in
    let low = subst (λ (l : List Change). index < length l) items c.loop-place-test.true in
    record {
      table = c.store_any.ensures.table;
      lives = c.store_any.ensures.lives;
      known = stored_more _ c.args.seat.now c.args.visit c.requires.at c.requires.fresh c.loop-place.seat c.store_any.new.seat index change i.known low
          (ap (λ (l : List Change). slice_index_or l index (Key 0, 0)) items)
          (c.store_any.ensures.known ∙ ap (λ (x : Word). known_told c.loop-place.seat.known act.Store x None (Some change.1)) c.word_of.ensures);
    }
