use Rattle.std.proofs.Common.{refl, ◌∙◌}
use Rattle.smp_machine.specs.Own.{own_of}
use Rattle.smp_machine.proofs.Works.{works_none, works_then, works_as}
use Rattle.smp_machine.proofs.threads.poll_to_the_end.Goals as goal

pub returns-then-not-polls-clause-works : goal.returns-then-not-polls-clause-works
returns-then-not-polls-clause-works g c =
    let seat = c.args.seat.now in works_none g.H.Handler.leads g.F.StopFunc.leads seat.cpu seat.handler seat.functions

pub loop-init : goal.loop-init
loop-init g c =
    let seat = c.args.seat.now in
    (works_none g.H.Handler.leads g.F.StopFunc.leads seat.cpu seat.handler seat.functions, record { machine_is = refl; number_is = refl })

pub returns-then-last-clause-works : goal.returns-then-last-clause-works
returns-then-last-clause-works g c =
    let was = c.loop.invariant in
    works_as g.H.Handler.leads g.F.StopFunc.leads (own_of c.args.seat.now.cpu) was.0.own_is
    (works_then g.H.Handler.leads g.F.StopFunc.leads was.0 c.poll_and_tell-found.ensures.works)

pub loop-preserved : goal.loop-preserved
loop-preserved g c =
    let was = c.loop.invariant in let polled = c.poll_and_tell-found.ensures.same in (
      works_as g.H.Handler.leads g.F.StopFunc.leads (own_of c.args.seat.now.cpu) was.0.own_is
          (works_then g.H.Handler.leads g.F.StopFunc.leads was.0 c.poll_and_tell-found.ensures.works),
      record { machine_is = polled.machine_is ∙ was.1.machine_is; number_is = polled.number_is ∙ was.1.number_is },
    )
