use Rattle.std.proofs.Common.{arith, [], refl, rules}
use Rattle.smp_calls.specs.Records.{many_call}
use Rattle.smp_calls.proofs.Lawful.{has_online, lawful_online}
use Rattle.smp_calls.proofs.AtOnce.{none_handled, queued_at_once}
use Rattle.smp_calls.proofs.Counted.{makes_asked_not, makes_asked}
use Rattle.smp_calls.proofs.Round.{queues_none, queues_one}
use Rattle.smp_calls.proofs.each.queue_if.Goals as goal

pub returns-then-not-candidate-clause-queued : goal.returns-then-not-candidate-clause-queued
returns-then-not-candidate-clause-queued g c = (
  [],
  search rules,
  refl,
  queues_none g.H.Handler.leads c.args.me.now c.args.handler.now
      (many_call c.args.me.now.number c.args.job.class c.args.job.func c.args.job.info),
)

pub returns-then-not-candidate-clause-at_once : goal.returns-then-not-candidate-clause-at_once
returns-then-not-candidate-clause-at_once g c confirmed = (none_handled c.args.me.now, refl)

pub wait_for-requires-clause-record : goal.wait_for-requires-clause-record
wait_for-requires-clause-record g c = search (has_online, arith)

pub queue-requires-clause-lawful : goal.queue-requires-clause-lawful
queue-requires-clause-lawful g c = search (lawful_online, arith)

pub returns-clause-at_once : goal.returns-clause-at_once
returns-clause-at_once g c confirmed = search (queued_at_once, arith)

pub returns-clause-queued : goal.returns-clause-queued
returns-clause-queued g c =
    queues_one g.H.Handler.leads c.many_record-k.result c.args.candidate.to c.args.job.class c.args.job.func c.args.job.info c.args.candidate.asked
    c.queue.result c.queue.ensures.0 (search rules) c.many_record-k.ensures (search rules) c.requires.sized c.wait_for.ensures.left c.queue.ensures.1

pub returns-then-not-candidate-clause-turns : goal.returns-then-not-candidate-clause-turns
returns-then-not-candidate-clause-turns g c = makes_asked_not c.args.me.now c.args.candidate.to c.args.candidate.asked (search rules)

pub returns-clause-turns : goal.returns-clause-turns
returns-clause-turns g c =
    makes_asked g.H.Handler.leads c.many_record-k.result c.args.candidate.to c.args.job.class c.args.job.func c.args.job.info c.queue.result c.queue.ensures.0
    c.args.candidate.asked (search rules) c.wait_for.ensures.left c.wait_for.ensures.turns c.queue.ensures.1
