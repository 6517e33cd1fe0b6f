use Rattle.std.proofs.Common.{rules, ◌≡◌, ◌<◌, ◌+◌, List, length, sym, ◌∙◌, subst, arith}
use Rattle.crossbeam_queue.specs.Passes.{Pass}
use Rattle.smp_words.specs.Size.{cpus}
use Rattle.smp_machine.specs.declared.work_queue.Item.{Item}
use Rattle.smp_machine.specs.declared.work_queue.Knows.{Knows}
use Rattle.smp_machine.specs.Passes.{PassesValue, queue_ids, AreSources, AreGiven, AreFresh, fresh_passes}
use Rattle.smp_machine.proofs.Held.{length_map}
use Rattle.smp_machine.proofs.Made.{AreLeft, left_all, left_rest, left_first, given_rest, given_first, held, held_fresh, fresh_none, fresh_more}
use Rattle.smp_machine.proofs.open.pair_all.Goals as goal

pub loop-number-init : goal.loop-number-init
loop-number-init g c = record {
  takers_left = search rules;
  given_left = search rules;
  takers = left_all (queue_ids c.args.queues.now) c.args.takers.items c.requires.takers;
  given = c.requires.given;
  count = search rules;
  fresh = subst (λ (l : List PassesValue). AreFresh (queue_ids c.args.queues.now) 0 l) (sym c.in_ok-passes.ensures.items)
      (fresh_none (queue_ids c.args.queues.now));
}

pub new-requires : goal.new-requires
new-requires g c =
    let v = c.loop-number.invariant in
    let n = c.loop-number.number in
    let ids = queue_ids c.args.queues.now in
    let below : n < cpus = c.loop-number-test.true in
    let takers_left : length c.loop-number.takers.items + n ≡ cpus = v.takers_left in
    let given_left : length c.loop-number.given.items + n ≡ cpus = v.given_left in
    let own = left_first ids n c.loop-number.takers.items c.remove-own.result v.takers (omega arith) c.remove-own.ensures.value in
    let to = given_first ids n c.loop-number.given.items c.remove.result v.given (omega arith) c.remove.ensures.value in
    held ids n c.to.inside.to.items c.remove-own.result (length_map (λ q. q.table.shared.table_id) c.args.queues.now ∙ c.requires.sized.0) below
    (subst (λ (l : List (Pass Item Knows)). AreSources ids n l) (sym c.to.view_is) to) own.0 own.1

pub loop-number-preserved : goal.loop-number-preserved
loop-number-preserved g c =
    let v = c.loop-number.invariant in
    let n = c.loop-number.number in
    let ids = queue_ids c.args.queues.now in
    let below : n < cpus = c.loop-number-test.true in
    let takers_left : length c.loop-number.takers.items + n ≡ cpus = v.takers_left in
    let given_left : length c.loop-number.given.items + n ≡ cpus = v.given_left in
    let own = left_first ids n c.loop-number.takers.items c.remove-own.result v.takers (omega arith) c.remove-own.ensures.value in
    let to = given_first ids n c.loop-number.given.items c.remove.result v.given (omega arith) c.remove.ensures.value in
    let to_here = subst (λ (l : List (Pass Item Knows)). AreSources ids n l) (sym c.to.view_is) to in
    let fresh : c.new.result ≡ fresh_passes ids n = c.new.ensures ∙ held_fresh ids n c.to.inside.to.items c.remove-own.result to_here own.0 in
    record {
      takers_left = search rules;
      given_left = search rules;
      takers = subst (λ (l : List (Pass Item Knows)). AreLeft ids (n + 1) l) (sym c.remove-own.ensures.items)
          (left_rest ids n c.loop-number.takers.items v.takers);
      given = subst (λ (l : List (List (Pass Item Knows))). AreGiven ids (n + 1) l) (sym c.remove.ensures.items)
          (given_rest ids n c.loop-number.given.items v.given);
      count = search rules;
      fresh = subst (λ (l : List PassesValue). AreFresh ids 0 l) (sym c.in_ok-push.ensures.items)
          (fresh_more ids c.loop-number.passes.items n c.new.result v.count v.fresh fresh);
    }
