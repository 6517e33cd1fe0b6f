use Rattle.smp_machine.proofs.Polls.{works_turned, looks_poll}
use Rattle.smp_machine.proofs.poll.poll.Goals as goal

pub returns-then-take_work-clause-once : goal.returns-then-take_work-clause-once
returns-then-take_work-clause-once g c on =
    looks_poll g.H.Handler.leads g.F.StopFunc.leads c.args.machine.now c.args.me.now c.turn_and_tell-interrupted.new.me c.take_work.new.me c.finish_work.new.me
    c.turn_and_tell-interrupted.new.handler c.finish_work.new.handler c.turn_and_tell-interrupted.new.run c.finish_work.new.run c.take_work.result
    (c.turn_and_tell-interrupted.ensures.once on) c.take_work.ensures c.finish_work.ensures.works

pub returns-then-was_in_hand-clause-works : goal.returns-then-was_in_hand-clause-works
returns-then-was_in_hand-clause-works g c =
    works_turned g.H.Handler.leads g.F.StopFunc.leads c.args.machine.now c.args.me.now c.turn_and_tell-interrupted.new.me c.take_work.new.me
    c.args.handler.now c.turn_and_tell-interrupted.new.handler c.args.run.now c.turn_and_tell-interrupted.new.run c.take_work.result
    c.turn_and_tell-interrupted.ensures.works c.take_work.ensures

pub returns-else-was_in_hand-clause-works : goal.returns-else-was_in_hand-clause-works
returns-else-was_in_hand-clause-works g c =
    works_turned g.H.Handler.leads g.F.StopFunc.leads c.args.machine.now c.args.me.now c.turn_and_tell-interrupted.new.me c.take_work.new.me
    c.args.handler.now c.turn_and_tell-interrupted.new.handler c.args.run.now c.turn_and_tell-interrupted.new.run c.take_work.result
    c.turn_and_tell-interrupted.ensures.works c.take_work.ensures
