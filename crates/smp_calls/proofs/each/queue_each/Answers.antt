use Rattle.std.proofs.Common.{arith, ◌≡◌, ℕ, List, ◌∙◌, sym, subst}
use Rattle.smp_calls.specs.Queued.{Queued, destinations, firsts}
use Rattle.smp_calls.specs.Records.{many_call}
use Rattle.smp_calls.specs.Rounds.{only_if, Queues}
use Rattle.smp_calls.proofs.AtOnce.{Quiet, quiet_start, quiet_more}
use Rattle.smp_calls.proofs.Steps.{sized_moved}
use Rattle.smp_calls.proofs.Loops.{asking_start, asking_more, asking_end, asking_turns}
use Rattle.smp_calls.proofs.each.queue_each.Goals as goal

pub loop-cpu-init : goal.loop-cpu-init
loop-cpu-init g c = (
  search (asking_start, arith),
  subst (λ (left : ℕ). Quiet c.args.me.now c.args.handler.now c.args.me.now c.args.handler.now c.args.calls.others left)
      (sym (c.into_iter-cpu-iterator.ensures.into_iter_gives ∙ c.iter-cpu-items.ensures)) (quiet_start c.args.me.now c.args.handler.now c.args.calls.others),
)

pub queue_if-first-requires-clause-table : goal.queue_if-first-requires-clause-table
queue_if-first-requires-clause-table g c = c.loop-cpu.invariant.0.queues.leaves.table_is ∙ c.requires.table

pub queue_if-first-requires-clause-sized : goal.queue_if-first-requires-clause-sized
queue_if-first-requires-clause-sized g c = search sized_moved

pub queue_if-first-requires-clause-online : goal.queue_if-first-requires-clause-online
queue_if-first-requires-clause-online g c = search arith

pub queue_if-first-requires-clause-other : goal.queue_if-first-requires-clause-other
queue_if-first-requires-clause-other g c same = search arith

pub loop-cpu-preserved : goal.loop-cpu-preserved
loop-cpu-preserved g c =
    let next = c.in-Some.ensures.steps in
    let a = c.loop-cpu.invariant.0 in
    let q = c.queue_if-first.ensures in
    let job = c.args.calls.job in (
      asking_more g.H.Handler.leads (many_call c.args.me.now.number job.class job.func job.info)
          c.args.calls.others c.loop-cpu.cpu-iterator c.next.new.self c.in-Some.cpu c.loop-cpu.called c.loop-cpu.owed c.without_unless-called.result
          c.without_unless-owed.result c.cond-asked.result c.queue_if-first.result
          a next.0 next.1.0 next.1.1
          (subst (λ (n : ℕ). (queued : List Queued) × (destinations queued ≡ only_if c.cond-asked.result c.in-Some.cpu)
          × (firsts queued ≡ only_if c.queue_if-first.result c.in-Some.cpu)
          × Queues g.H.Handler.leads c.loop-cpu.me c.loop-cpu.handler c.queue_if-first.new.me c.queue_if-first.new.handler
          (many_call n job.class job.func job.info) queued) a.queues.leaves.number_is q.queued)
          q.turns c.cond-asked.ensures c.without_unless-called.ensures.kept c.without_unless-called.ensures.out c.without_unless-owed.ensures.kept
          c.without_unless-owed.ensures.out,
      quiet_more g.H.Handler.leads job.class job.func job.info c.args.calls.others c.loop-cpu.cpu-iterator c.next.new.self c.in-Some.cpu
          c.cond-asked.result q.queued.0 c.loop-cpu.invariant.1 next.0 next.1.0 next.1.1 q.queued.1 q.queued.3 q.at_once,
    )

pub returns-clause-queued : goal.returns-clause-queued
returns-clause-queued g c =
    asking_end g.H.Handler.leads _ c.args.calls.others c.loop-cpu.cpu-iterator c.loop-cpu.called c.loop-cpu.owed c.loop-cpu.invariant.0
    c.in-None.ensures.steps.0.0

pub returns-clause-at_once : goal.returns-clause-at_once
returns-clause-at_once g c all = c.loop-cpu.invariant.1.handled all

pub returns-clause-turns : goal.returns-clause-turns
returns-clause-turns g c =
    asking_turns g.H.Handler.leads _ c.args.calls.others c.loop-cpu.cpu-iterator c.loop-cpu.called c.loop-cpu.owed c.loop-cpu.invariant.0
    c.in-None.ensures.steps.0.0
