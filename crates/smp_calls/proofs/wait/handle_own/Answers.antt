use Rattle.std.proofs.Common.{arith}
use Rattle.smp_calls.proofs.Steps.{leaves_handled}
use Rattle.smp_calls.proofs.Turns.{handled_once, handled_tried}
use Rattle.smp_calls.proofs.wait.handle_own.Goals as goal

pub returns-clause-left : goal.returns-clause-left
returns-clause-left g c = leaves_handled g.H.Handler.leads c.handle.result.interrupted c.args.me.now c.handle.new.me c.args.handler.now c.handle.new.handler
    (λ e. let t = c.handle.ensures.asked e in (t.0, t.1, t.2)) (λ e. let t = c.handle.ensures.idle e in (t.0, t.1))

pub returns-clause-once : goal.returns-clause-once
returns-clause-once g c = handled_once c.handle.result.interrupted c.args.me.now c.handle.new.me
    (λ e. let t = c.handle.ensures.asked e in (t.0, t.1)) (λ e. let t = c.handle.ensures.idle e in t.0)

pub returns-clause-tried : goal.returns-clause-tried
returns-clause-tried g c = search (handled_tried, arith)
