use Rattle.std.proofs.Common.{rules, None, false}
use Rattle.smp_mask.specs.Mask.{members}
use Rattle.smp_calls.specs.Targets.{is_target}
use Rattle.smp_run.proofs.Calling.{many_answered}
use Rattle.smp_run.proofs.Sending.{many_called}
use Rattle.smp_run.proofs.Waiting.{waited_many}
use Rattle.smp_run.proofs.Stays.{stays_called}
use Rattle.smp_run.specs.declared.answer.Answer.TheVariants.{Cpus}
use Rattle.smp_run.proofs.calls.many.Goals as goal

pub returns-clause-answer : goal.returns-clause-answer
returns-clause-answer g c =
    let me = c.args.seat.now in let own = c.requires.rest.seated in let call = c.call_many-made in
    rw (c.answer_or.ensures (λ x. Cpus x) (λ x a p. search rules)) (
    many_answered (is_target c.args.mask me.machine.calls.online me.cpu.calls.number false) me.cpu call.new.self.cpu _ _ call.result
    own.free
    call.ensures.answers.targets call.ensures.answers.refused)

pub returns-clause-sent : goal.returns-clause-sent
returns-clause-sent g c =
    let me = c.args.seat.now in let own = c.requires.rest.seated in let call = c.call_many-made in
    many_called _ me.machine.calls.online c.args.mask c.args.func c.args.info c.args.wait me.cpu call.new.self.cpu _ _ call.result own.free
    call.ensures.answers.targets call.ensures.answers.calls call.ensures.answers.refused

pub returns-clause-stays : goal.returns-clause-stays
returns-clause-stays g c =
    let me = c.args.seat.now in let own = c.requires.rest.seated in let call = c.call_many-made in
    stays_called me call.new.self call.ensures.answers.kept call.ensures.same
    (waited_many _ members c.args.func c.args.info (λ called. None) c.args.wait me.cpu call.new.self.cpu _ _ call.result own.free call.ensures.answers.calls
    call.ensures.answers.refused c.requires.rest.waited)
    c.requires.rest
