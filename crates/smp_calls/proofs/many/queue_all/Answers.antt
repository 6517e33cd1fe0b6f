use Rattle.std.proofs.Common.{arith}
use Rattle.smp_calls.proofs.AtOnce.{none_sent}
use Rattle.smp_calls.proofs.Counted.{makes_sends}
use Rattle.smp_calls.proofs.Passes.{queued_and_sent}
use Rattle.smp_calls.proofs.many.queue_all.Goals as goal

pub returns-clause-last : goal.returns-clause-last
returns-clause-last g c = search (queued_and_sent, arith)

pub returns-clause-at_once : goal.returns-clause-at_once
returns-clause-at_once g c all =
    let q = c.queue_each-called.ensures.at_once all in
    (none_sent c.args.me.now c.queue_each-called.new.me c.send_each.new.me _ q.0 c.send_each.ensures, q.1)

pub returns-clause-turns : goal.returns-clause-turns
returns-clause-turns g c = search (makes_sends, arith)
