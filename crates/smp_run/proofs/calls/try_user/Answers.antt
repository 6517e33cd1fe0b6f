use Rattle.smp_run.proofs.Calling.{call_made}
use Rattle.smp_run.proofs.Sending.{user_called}
use Rattle.smp_run.proofs.Waiting.{waited_user}
use Rattle.smp_run.proofs.Stays.{stays_called}
use Rattle.smp_run.proofs.calls.try_user.Goals as goal

pub returns-in-Ok-clause-answer : goal.returns-in-Ok-clause-answer
returns-in-Ok-clause-answer g c =
    let me = c.args.seat.now in
    call_made me.machine.calls.online c.args.dst me.cpu.calls.number _ c.requires.rest.seated.online c.in-Ok.ensures.answers.queued

pub returns-in-Ok-clause-sent : goal.returns-in-Ok-clause-sent
returns-in-Ok-clause-sent g c =
    let me = c.args.seat.now in let call = c.call_async in
    user_called _ me.machine.calls.online c.args.dst c.args.u c.args.func c.args.info me.cpu call.new.self.cpu _ _ c.in-Ok.ensures.answers.queued
    c.in-Ok.ensures.answers.here

pub returns-in-Ok-clause-stays : goal.returns-in-Ok-clause-stays
returns-in-Ok-clause-stays g c =
    let me = c.args.seat.now in let own = c.requires.rest.seated in let call = c.call_async in
    stays_called me call.new.self call.ensures.answers.kept call.ensures.same
    (waited_user _ me.machine.calls.online c.args.dst c.args.u c.args.func c.args.info me.cpu call.new.self.cpu _ _ call.result own.free
    call.ensures.answers.queued call.ensures.answers.here call.ensures.answers.refused c.requires.rest.waited)
    c.requires.rest

pub returns-in-Err-Busy-clause-stays : goal.returns-in-Err-Busy-clause-stays
returns-in-Err-Busy-clause-stays g c =
    let me = c.args.seat.now in let own = c.requires.rest.seated in let call = c.call_async in
    stays_called me call.new.self call.ensures.answers.kept call.ensures.same
    (waited_user _ me.machine.calls.online c.args.dst c.args.u c.args.func c.args.info me.cpu call.new.self.cpu _ _ call.result own.free
    call.ensures.answers.queued call.ensures.answers.here call.ensures.answers.refused c.requires.rest.waited)
    c.requires.rest

pub returns-in-Err-clause-stays : goal.returns-in-Err-clause-stays
returns-in-Err-clause-stays g c =
    let me = c.args.seat.now in let own = c.requires.rest.seated in let call = c.call_async in
    stays_called me call.new.self call.ensures.answers.kept call.ensures.same
    (waited_user _ me.machine.calls.online c.args.dst c.args.u c.args.func c.args.info me.cpu call.new.self.cpu _ _ call.result own.free
    call.ensures.answers.queued call.ensures.answers.here call.ensures.answers.refused c.requires.rest.waited)
    c.requires.rest
