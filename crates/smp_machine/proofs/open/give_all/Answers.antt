use Rattle.std.proofs.Common.{◌<◌, ◌≤◌, ◌+◌, ℕ, List, length, take, sym, ap, ◌∙◌, subst, arith, length-set}
use Rattle.crossbeam_queue.specs.Passes.{Pass}
use Rattle.smp_machine.specs.declared.work_queue.Item.{Item}
use Rattle.smp_machine.specs.declared.work_queue.Knows.{Knows}
use Rattle.smp_machine.specs.declared.work_queue.Knows.TheVariants.{Takes}
use Rattle.smp_machine.specs.Passes.{queue_ids, AreSources}
use Rattle.smp_machine.proofs.Held.{same_at, index_map, length_map}
use Rattle.smp_machine.proofs.Made.{above_is, takers_gave, takers_after, sources_more}
use Rattle.smp_machine.proofs.open.give_all.Goals as goal

pub give-pass-requires : goal.give-pass-requires
give-pass-requires g c =
    let i = c.loop-cpu.cpu in
    let below : i < length c.args.queues.now = c.loop-cpu-test.true in
    let short : i < length c.loop-cpu.takers.items = subst (λ (n : ℕ). i < n) (sym c.loop-cpu.invariant.sized) below in
    let p = c.index_mut.result.now in
    let at = c.index_mut.ensures.value in
    let t = c.loop-cpu.invariant.takers.each i p short at in (
      (
        same_at (λ y. y.table_id) (λ q. q.table.shared.table_id) c.loop-cpu.takers.items c.args.queues.now i p c.index-queues-cpu.result
            c.loop-cpu.invariant.takers.ids_are short below at c.index-queues-cpu.is,
        t.empty,
      ),
      t.knows ∙ ap (λ (n : ℕ). Takes n _) (above_is i c.args.source i (omega arith)),
    )

pub loop-cpu-preserved : goal.loop-cpu-preserved
loop-cpu-preserved g c =
    let i = c.loop-cpu.cpu in
    let below : i < length c.args.queues.now = c.loop-cpu-test.true in
    let short : i < length c.loop-cpu.takers.items = subst (λ (n : ℕ). i < n) (sym c.loop-cpu.invariant.sized) below in
    let ids = queue_ids c.args.queues.now in
    let p = c.index_mut.result.now in
    let at = c.index_mut.ensures.value in
    let queue = c.index-queues-cpu.result in
    let gave = c.give-pass.ensures in
    let table = same_at (λ (y : Pass Item Knows). y.table_id) (λ q. q.table.shared.table_id) c.loop-cpu.takers.items c.args.queues.now i p queue
    c.loop-cpu.invariant.takers.ids_are short below at c.index-queues-cpu.is in
    let wide : i < length ids = subst (λ (n : ℕ). i < n) (sym (length_map (λ q. q.table.shared.table_id) c.args.queues.now)) below in
    record {
      takers = takers_gave ids c.loop-cpu.takers.items i c.args.source p c.give-pass.new.taker
          c.loop-cpu.invariant.takers short at (gave.0.0 ∙ sym table) gave.0.1 gave.1;
      sized = length-set c.loop-cpu.takers.items i c.give-pass.new.taker ∙ c.loop-cpu.invariant.sized;
      to = subst (λ (l : List (Pass Item Knows)). AreSources (take (i + 1) ids) c.args.source l) (sym c.in_ok-push.ensures.items)
          (sources_more ids i c.args.source c.loop-cpu.to.items c.give-pass.result c.loop-cpu.invariant.to wide
          (gave.2.0 ∙ sym (index_map (λ q. q.table.shared.table_id) c.args.queues.now i queue _ below c.index-queues-cpu.is)) gave.2.1 gave.3);
    }

pub returns-clause-takers : goal.returns-clause-takers
returns-clause-takers g c =
    let all : length c.args.queues.now ≤ c.loop-cpu.cpu = c.loop-cpu-test.false in
    takers_after (queue_ids c.args.queues.now) c.loop-cpu.takers.items c.loop-cpu.cpu c.args.source
    (subst (λ (n : ℕ). n ≤ c.loop-cpu.cpu) (sym c.loop-cpu.invariant.sized) all) c.loop-cpu.invariant.takers
