use Rattle.std.proofs.Common.{rules}
use Rattle.smp_run.proofs.Calling.{single_answered}
use Rattle.smp_run.proofs.Sending.{single_called}
use Rattle.smp_run.proofs.Waiting.{waited_single}
use Rattle.smp_run.proofs.Stays.{stays_called}
use Rattle.smp_run.specs.declared.answer.Answer.TheVariants.{Done}
use Rattle.smp_run.proofs.calls.single.Goals as goal

pub returns-clause-answer : goal.returns-clause-answer
returns-clause-answer g c =
    let me = c.args.seat.now in let own = c.requires.rest.seated in let call = c.call_single-made in
    rw (c.answer_or.ensures (λ _. Done) (λ x a p. search rules)) (
    single_answered me.machine.calls.online c.args.dst me.cpu.calls.number me.cpu call.new.self.cpu _ _ _ _ call.result own.online
    own.free
    call.ensures.answers.queued call.ensures.answers.refused)

pub returns-clause-sent : goal.returns-clause-sent
returns-clause-sent g c =
    let me = c.args.seat.now in let own = c.requires.rest.seated in let call = c.call_single-made in
    single_called _ me.machine.calls.online c.args.dst c.args.func c.args.info c.args.wait me.cpu call.new.self.cpu _ _ call.result own.free
    call.ensures.answers.queued call.ensures.answers.here call.ensures.answers.refused

pub returns-clause-stays : goal.returns-clause-stays
returns-clause-stays g c =
    let me = c.args.seat.now in let own = c.requires.rest.seated in let call = c.call_single-made in
    stays_called me call.new.self call.ensures.answers.kept call.ensures.same
    (waited_single _ me.machine.calls.online c.args.dst c.args.func c.args.info c.args.wait me.cpu call.new.self.cpu _ _ call.result own.free
    call.ensures.answers.queued call.ensures.answers.here call.ensures.answers.refused c.requires.rest.waited)
    c.requires.rest
