use Rattle.smp_machine.proofs.OwnTurns.{works_turn}
use Rattle.smp_machine.proofs.turn.turn_and_tell.Goals as goal

pub returns-clause-works : goal.returns-clause-works
returns-clause-works g c =
    works_turn g.H.Handler.leads g.F.StopFunc.leads c.handle_if_on-interrupted.ensures.looks c.step.ensures.calls c.step.ensures.passes
    c.step.ensures.heard c.is_shown.ensures.shown c.is_shown.ensures.not_left c.is_shown.ensures.irq c.step.ensures.stops
