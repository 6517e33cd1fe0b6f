use Rattle.std.proofs.Common.{true, refl, arith}
use Rattle.smp_call_steps.proofs.Machine.Starts.{record_below}
use Rattle.smp_calls.proofs.Polling.{polling_more, polling_looked, polling_apart, polling_at_once}
use Rattle.smp_calls.proofs.wait_within.poll_until.Goals as goal

pub returns-then-is_done-clause-left : goal.returns-then-is_done-clause-left
returns-then-is_done-clause-left g c =
    polling_looked g.H.Handler.leads c.args.me.now c.loop-made.me c.is_done.new.me c.args.handler.now c.loop-made.handler c.loop-made.made c.args.k true
    c.requires.sized (record_below c.args.context.table.now.nr c.args.k c.requires.record) c.loop-made.invariant.0 c.if-is_done.ensures.known

pub returns-then-is_done-clause-apart : goal.returns-then-is_done-clause-apart
returns-then-is_done-clause-apart g c = search (polling_apart, arith)

pub returns-then-is_done-clause-at_once : goal.returns-then-is_done-clause-at_once
returns-then-is_done-clause-at_once g c confirmed = search (polling_at_once, arith)

pub loop-made-preserved : goal.loop-made-preserved
loop-made-preserved g c = (
  polling_more g.H.Handler.leads c.args.k c.args.me.now c.loop-made.me c.is_done.new.me c.handle_own.new.me c.args.handler.now c.loop-made.handler
      c.handle_own.new.handler c.loop-made.made (record_below c.args.context.table.now.nr c.args.k c.requires.record) c.loop-made.invariant.0
      (c.if-is_done.ensures.locked refl) c.if-is_done.ensures.known c.handle_own.ensures.left c.handle_own.ensures.once,
  let below = c.loop-made-test.true in omega arith,
)

pub returns-clause-left : goal.returns-clause-left
returns-clause-left g c =
    polling_looked g.H.Handler.leads c.args.me.now c.loop-made.me c.is_done-done.new.me c.args.handler.now c.loop-made.handler c.loop-made.made c.args.k
    c.is_done-done.result c.requires.sized (record_below c.args.context.table.now.nr c.args.k c.requires.record) c.loop-made.invariant.0
    c.is_done-done.ensures.known

pub returns-clause-apart : goal.returns-clause-apart
returns-clause-apart g c = search (polling_apart, arith)

pub returns-clause-at_once : goal.returns-clause-at_once
returns-clause-at_once g c confirmed = search (polling_at_once, arith)
