use Rattle.std.proofs.Common.{rules}
use Rattle.smp_calls.proofs.Counted.{turns_left, turns_waited}
use Rattle.smp_calls.proofs.One.{calls_left, calls_waited}
use Rattle.smp_calls.proofs.single.call_there.Goals as goal

pub returns-then-wait-clause-called : goal.returns-then-wait-clause-called
returns-then-wait-clause-called g c =
    calls_waited g.H.Handler.leads c.single_record-k.result c.args.to c.class_for-class.result c.args.call.func c.args.call.info c.args.call.wait
    c.if-wait.true c.single_record-k.ensures c.class_for-class.ensures (search rules) c.requires.sized c.wait_for.ensures.left c.queue_and_send.ensures
    c.wait_for-then-wait.ensures.left

pub returns-else-wait-clause-called : goal.returns-else-wait-clause-called
returns-else-wait-clause-called g c =
    calls_left g.H.Handler.leads c.single_record-k.result c.args.to c.class_for-class.result c.args.call.func c.args.call.info c.args.call.wait
    c.if-wait.false c.single_record-k.ensures c.class_for-class.ensures (search rules) c.requires.sized c.wait_for.ensures.left c.queue_and_send.ensures

pub returns-then-wait-clause-turns : goal.returns-then-wait-clause-turns
returns-then-wait-clause-turns g c =
    turns_waited g.H.Handler.leads c.single_record-k.result c.args.to c.class_for-class.result c.args.call.func c.args.call.info c.args.call.wait
    c.if-wait.true c.wait_for.ensures.left c.wait_for.ensures.turns c.queue_and_send.ensures c.wait_for-then-wait.ensures.left
    c.wait_for-then-wait.ensures.turns

pub returns-else-wait-clause-turns : goal.returns-else-wait-clause-turns
returns-else-wait-clause-turns g c =
    turns_left g.H.Handler.leads c.single_record-k.result c.args.to c.class_for-class.result c.args.call.func c.args.call.info c.args.call.wait
    c.if-wait.false c.wait_for.ensures.left c.wait_for.ensures.turns c.queue_and_send.ensures
