use Rattle.std.proofs.Common.{rules, sym, ◌∙◌}
use Rattle.smp_machine.specs.Stops.{IsOneWork}
use Rattle.smp_run.proofs.Echoing.{own_answered}
use Rattle.smp_run.proofs.Refusals.{one_answered}
use Rattle.smp_machine.specs.Moves.{short_stop}
use Rattle.smp_run.proofs.Staying.{quiet_stopped, called_stopped}
use Rattle.smp_run.proofs.Making.{makes_stop}
use Rattle.smp_run.proofs.Stays.{stays_quiet}
use Rattle.smp_run.specs.declared.answer.Answer.TheVariants.{Number}
use Rattle.smp_run.proofs.calls.one.Goals as goal

pub returns-clause-answer : goal.returns-clause-answer
returns-clause-answer g c =
    let me = c.args.seat.now in let call = c.stop_one-made in let this = c.number_of-this.ensures in
    rw (c.answer_or.ensures (λ x. Number x) (λ x a p. search rules)) (
    one_answered me.machine.stops me.cpu me.cpu.calls.number c.args.dst c.args.arg me.machine.calls.online call.result
    (sym c.online-online.ensures.stops ∙ c.online-online.ensures.calls) c.requires.rest.seated.free call.ensures.online
    (own_answered _ short_stop (IsOneWork c.args.dst c.args.func c.args.arg) me call.new.self _ _ c.args.func c.args.arg call.result
    (λ e. e ∙ (sym this.calls ∙ this.stops)) c.requires.small call.ensures.ok call.ensures.own)
    call.ensures.err)

pub returns-clause-sent : goal.returns-clause-sent
returns-clause-sent g c =
    let call = c.stop_one-made in called_stopped _ _ short_stop _ c.args.seat.now call.new.self call.result call.ensures.ok call.ensures.kept

pub returns-clause-made : goal.returns-clause-made
returns-clause-made g c =
    let call = c.stop_one-made in
    rw (c.answer_or.ensures (λ x. Number x) (λ x a p. search rules)) (
    makes_stop _ _ short_stop _ c.args.seat.now call.new.self call.result call.ensures.ok call.ensures.kept)

pub returns-clause-stays : goal.returns-clause-stays
returns-clause-stays g c =
    let call = c.stop_one-made in
    stays_quiet _ _ c.args.seat.now call.new.self
    (quiet_stopped _ _ short_stop _ c.args.seat.now call.new.self call.result call.ensures.ok call.ensures.kept)
    call.ensures.same c.requires.rest
