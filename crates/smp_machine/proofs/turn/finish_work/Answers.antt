use Rattle.std.proofs.Common.{sym, subst}
use Rattle.smp_machine.specs.MachineCpu.{MachineCpuValue}
use Rattle.smp_machine.specs.Own.{own_of}
use Rattle.smp_machine.proofs.Works.{works_then, works_as}
use Rattle.smp_machine.proofs.Polls.{Going, going_none, going_more, going_read}
use Rattle.smp_machine.proofs.turn.finish_work.Goals as goal

pub loop-init : goal.loop-init
loop-init g c = going_none g.H.Handler.leads g.F.StopFunc.leads c.args.me.now c.args.handler.now c.args.run.now c.requires.inside

pub returns-in-Left-clause-works : goal.returns-in-Left-clause-works
returns-in-Left-clause-works g c =
    works_as g.H.Handler.leads g.F.StopFunc.leads (own_of c.args.me.now) c.loop.invariant.works.own_is
    (works_then g.H.Handler.leads g.F.StopFunc.leads c.loop.invariant.works c.turn.ensures.works)

pub returns-in-Left-clause-read : goal.returns-in-Left-clause-read
returns-in-Left-clause-read g c =
    going_read g.H.Handler.leads g.F.StopFunc.leads c.args.me.now c.loop.me c.turn.new.me c.args.handler.now c.loop.handler c.args.run.now c.loop.run
    c.loop.invariant (c.turn.ensures.stops.read c.in-Left.is)

pub loop-preserved : goal.loop-preserved
loop-preserved g c =
    subst (λ (x : MachineCpuValue). Going g.H.Handler.leads g.F.StopFunc.leads c.args.me.now c.args.handler.now c.args.run.now
    x c.turn.new.handler c.turn.new.run) (sym c.note_late.ensures)
    (going_more g.H.Handler.leads g.F.StopFunc.leads c.args.me.now c.loop.me c.turn.new.me c.args.handler.now c.loop.handler c.turn.new.handler
    c.args.run.now c.loop.run c.turn.new.run c.turn.result c.loop.invariant c.turn.ensures.works c.turn.ensures.stops c.turn.ensures.passes
    c.in_default.not-Left)
