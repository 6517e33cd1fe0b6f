use Rattle.std.proofs.Common.{rules, ◌≡◌, ℕ, ◌<◌, true, subst, arith}
use Rattle.smp_mask.specs.Mask.{has}
use Rattle.smp_words.specs.Size.{cpus}
use Rattle.smp_run.proofs.Calling.{any_answered}
use Rattle.smp_run.proofs.Sending.{any_called}
use Rattle.smp_run.proofs.Waiting.{waited_any}
use Rattle.smp_run.proofs.Stays.{stays_called}
use Rattle.smp_run.specs.declared.answer.Answer.TheVariants.{Cpu}
use Rattle.smp_run.proofs.calls.any.Goals as goal

pub returns-clause-answer : goal.returns-clause-answer
returns-clause-answer g c =
    let me = c.args.seat.now in let call = c.call_any-made in
    rw (c.answer_or.ensures (λ x. Cpu x) (λ x a p. search rules)) (
    any_answered c.args.mask me.machine.calls.online me.cpu.calls.number me.cpu call.new.self.cpu me.handler call.new.self.handler
    (call.new.self.cpu.calls ≡ me.cpu.calls) (call.new.self.handler ≡ me.handler) call.result
    c.requires.rest.seated.free call.ensures.answers.any call.ensures.answers.refused)

pub returns-clause-sent : goal.returns-clause-sent
returns-clause-sent g c =
    let me = c.args.seat.now in let own = c.requires.rest.seated in let call = c.call_any-made in let limits = c.online-online.ensures.limits in
    let low : (cpu : ℕ) → has me.machine.calls.online cpu ≡ true → cpu < cpus =
    subst (λ (online : ℕ). (cpu : ℕ) → has online cpu ≡ true → cpu < cpus) c.online-online.ensures.calls
    (λ cpu there. omega (arith, limits.below cpu there, limits.within)) in
    any_called _ me.machine.calls.online c.args.mask c.args.func c.args.info c.args.wait me.cpu call.new.self.cpu _ _ call.result own.free low
    call.ensures.answers.any call.ensures.answers.queued call.ensures.answers.here call.ensures.answers.refused

pub returns-clause-stays : goal.returns-clause-stays
returns-clause-stays g c =
    let me = c.args.seat.now in let own = c.requires.rest.seated in let call = c.call_any-made in
    stays_called me call.new.self call.ensures.answers.kept call.ensures.same
    (waited_any _ me.machine.calls.online c.args.mask c.args.func c.args.info c.args.wait me.cpu call.new.self.cpu _ _ call.result own.free
    call.ensures.answers.queued call.ensures.answers.here call.ensures.answers.refused c.requires.rest.waited)
    c.requires.rest
