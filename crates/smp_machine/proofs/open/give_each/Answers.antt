use Rattle.std.proofs.Common.{rules, ◌≡◌, ◌≤◌, List, sym, subst, arith}
use Rattle.crossbeam_queue.specs.Passes.{Pass}
use Rattle.smp_words.specs.Size.{cpus}
use Rattle.smp_machine.specs.declared.work_queue.Item.{Item}
use Rattle.smp_machine.specs.declared.work_queue.Knows.{Knows}
use Rattle.smp_machine.specs.Passes.{queue_ids, AreGiven}
use Rattle.smp_machine.proofs.Made.{takers_as, given_more}
use Rattle.smp_machine.proofs.open.give_each.Goals as goal

pub loop-source-preserved : goal.loop-source-preserved
loop-source-preserved g c = record {
  takers = c.in_ok-to.ensures.takers;
  sized = c.in_ok-to.ensures.sized;
  count = search rules;
  given = subst (λ (l : List (List (Pass Item Knows))). AreGiven (queue_ids c.args.queues.now) 0 l) (sym c.in_ok-push.ensures.items)
      (given_more (queue_ids c.args.queues.now) c.loop-source.given.items c.loop-source.source c.in_ok-to.to c.loop-source.invariant.count
      c.loop-source.invariant.given c.in_ok-to.ensures.sources);
}

pub returns-clause-takers : goal.returns-clause-takers
returns-clause-takers g c =
    let most : c.loop-source.source ≤ cpus = c.loop-source.auto.source-end in
    let least : cpus ≤ c.loop-source.source = c.loop-source-test.false in
    let all : c.loop-source.source ≡ cpus = omega arith in
    takers_as (queue_ids c.args.queues.now) c.loop-source.takers.items (λ _. c.loop-source.source) (λ _. cpus) (λ i l. all) c.loop-source.invariant.takers
