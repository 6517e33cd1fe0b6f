use Rattle.std.proofs.Common.{arith, subst, refl, []}
use Rattle.smp_call_steps.proofs.Machine.Starts.{record_below}
use Rattle.smp_queue.specs.Cpu.{CpuValue, confirmed_at}
use Rattle.smp_calls.specs.Families.{Leaves, owes_at}
use Rattle.smp_calls.proofs.Steps.{leaves_none, leaves_as, leaves_then, leaves_looked, leaves_ended}
use Rattle.smp_calls.proofs.Turns.{waiting_first, waiting_more, waiting_ended}
use Rattle.smp_calls.proofs.wait.wait_for.Goals as goal

pub loop-init : goal.loop-init
loop-init g c = (leaves_none g.H.Handler.leads c.args.me.now c.args.handler.now, waiting_first c.args.k c.args.me.now c.args.handler.now)

pub returns-then-is_done-clause-left : goal.returns-then-is_done-clause-left
returns-then-is_done-clause-left g c = leaves_ended g.H.Handler.leads c.args.me.now c.loop.me c.is_done.new.me c.args.handler.now c.loop.handler c.args.k
    c.requires.sized (record_below c.args.context.table.now.nr c.args.k c.requires.record) c.loop.invariant.0 c.if-is_done.ensures.known

pub returns-then-is_done-clause-turns : goal.returns-then-is_done-clause-turns
returns-then-is_done-clause-turns g c = search (waiting_ended, arith)

pub loop-preserved : goal.loop-preserved
loop-preserved g c =
    let before = c.loop.invariant.0 in
    let new = c.handle_own-interrupted.new in
    let handled = subst (λ (x : CpuValue). Leaves g.H.Handler.leads x c.loop.handler new.me new.handler [] [] (owes_at x) (confirmed_at x))
    c.if-is_done.ensures.known c.handle_own-interrupted.ensures.left in (
      leaves_as g.H.Handler.leads (owes_at c.args.me.now) (confirmed_at c.args.me.now)
          (leaves_then g.H.Handler.leads before (leaves_looked g.H.Handler.leads {old = c.loop.me} refl handled)) before.owes_are before.confirmed_are,
      waiting_more c.args.k c.args.me.now c.loop.me c.is_done.new.me new.me c.args.handler.now c.loop.handler new.handler
          c.loop.invariant.1 (c.if-is_done.ensures.locked refl) c.if-is_done.ensures.known
          c.handle_own-interrupted.ensures.once c.handle_own-interrupted.ensures.tried,
    )
