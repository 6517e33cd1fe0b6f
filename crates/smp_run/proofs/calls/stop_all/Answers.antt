use Rattle.std.proofs.Common.{rules, ℕ, sym, subst, ◌∙◌}
use Rattle.smp_machine.specs.Stops.{IsActiveAlone, IsMachineWork}
use Rattle.smp_run.proofs.Echoing.{own_answered}
use Rattle.smp_run.proofs.Refusals.{all_answered}
use Rattle.smp_machine.specs.Moves.{long_stop}
use Rattle.smp_run.proofs.Staying.{quiet_stopped, called_stopped}
use Rattle.smp_run.proofs.Making.{makes_stop}
use Rattle.smp_run.proofs.Stays.{stays_quiet}
use Rattle.smp_run.specs.declared.answer.Answer.TheVariants.{Number}
use Rattle.smp_run.proofs.calls.stop_all.Goals as goal

pub returns-clause-answer : goal.returns-clause-answer
returns-clause-answer g c =
    let me = c.args.seat.now in let call = c.stop_machine-made in let this = c.number_of-this.ensures in
    let same = sym c.online-online.ensures.stops ∙ c.online-online.ensures.calls in
    let IsAlone : ℕ → ℕ → Type 0 = λ online number. IsActiveAlone online c.args.active number in
    rw (c.answer_or.ensures (λ x. Number x) (λ x a p. search rules)) (
    all_answered me.cpu (IsAlone me.machine.calls.online me.cpu.calls.number) c.args.arg call.result c.requires.rest.seated.free
    (own_answered _ long_stop (IsMachineWork me.machine.stops c.args.func c.args.arg c.args.active) me call.new.self _ _ c.args.func c.args.arg
    call.result (λ alone. subst (λ (p : ℕ × ℕ). IsAlone p.0 p.1) (λ i. (sym same i, (sym this.calls ∙ this.stops) i)) alone) c.requires.small
    call.ensures.ok call.ensures.own)
    call.ensures.err)

pub returns-clause-sent : goal.returns-clause-sent
returns-clause-sent g c =
    let call = c.stop_machine-made in called_stopped _ _ long_stop _ c.args.seat.now call.new.self call.result call.ensures.ok call.ensures.kept

pub returns-clause-made : goal.returns-clause-made
returns-clause-made g c =
    let call = c.stop_machine-made in
    rw (c.answer_or.ensures (λ x. Number x) (λ x a p. search rules)) (
    makes_stop _ _ long_stop _ c.args.seat.now call.new.self call.result call.ensures.ok call.ensures.kept)

pub returns-clause-stays : goal.returns-clause-stays
returns-clause-stays g c =
    let call = c.stop_machine-made in
    stays_quiet _ _ c.args.seat.now call.new.self
    (quiet_stopped _ _ long_stop _ c.args.seat.now call.new.self call.result call.ensures.ok call.ensures.kept)
    call.ensures.same c.requires.rest
