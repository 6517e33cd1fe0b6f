use Rattle.std.proofs.Common.{rules, ℕ, ◌<◌, true, subst}
use Rattle.smp_words.specs.Size.{cpus}
use Rattle.smp_calls.specs.Targets.{is_target, remote}
use Rattle.smp_run.specs.Answers.{says}
use Rattle.smp_run.proofs.Calling.{cond_answered}
use Rattle.smp_run.proofs.Sending.{cond_called}
use Rattle.smp_run.proofs.Waiting.{waited_many}
use Rattle.smp_run.proofs.Stays.{stays_called}
use Rattle.smp_run.specs.declared.answer.Answer.TheVariants.{Cpus}
use Rattle.smp_run.proofs.calls.cond.Goals as goal

pub returns-clause-answer : goal.returns-clause-answer
returns-clause-answer g c =
    let me = c.args.seat.now in let own = c.requires.rest.seated in let call = c.each_cpu_cond-made in
    rw (c.answer_or.ensures (λ x. Cpus x) (λ x a p. search rules)) (
    cond_answered (is_target c.args.chosen.mask me.machine.calls.online me.cpu.calls.number true) (says c.args.chosen.which) me.cpu call.new.self.cpu _
    _ call.result
    own.free call.ensures.answers.picks call.ensures.answers.refused)

pub returns-clause-sent : goal.returns-clause-sent
returns-clause-sent g c =
    let me = c.args.seat.now in let own = c.requires.rest.seated in let call = c.each_cpu_cond-made in
    let this = c.number-this.ensures in
    cond_called _ me.machine.calls.online c.args.chosen.mask c.args.func c.args.info c.args.chosen.which _ c.args.wait me.cpu call.new.self.cpu _ _ call.result
    own.free (subst (λ (n : ℕ). n < cpus) this.number this.below)
    call.ensures.answers.picks call.ensures.answers.calls call.ensures.answers.refused

pub returns-clause-stays : goal.returns-clause-stays
returns-clause-stays g c =
    let me = c.args.seat.now in let own = c.requires.rest.seated in let call = c.each_cpu_cond-made in
    stays_called me call.new.self call.ensures.answers.kept call.ensures.same
    (waited_many _ (remote me.cpu.calls.number) c.args.func c.args.info _ c.args.wait me.cpu call.new.self.cpu _ _ call.result own.free
    call.ensures.answers.calls
    call.ensures.answers.refused c.requires.rest.waited)
    c.requires.rest
