use Rattle.std.proofs.Common.{rules}
use Rattle.smp_run.proofs.Refusals.{set_answered}
use Rattle.smp_run.proofs.Staying.{quiet_set, called_set}
use Rattle.smp_run.proofs.Making.{makes_set}
use Rattle.smp_run.proofs.Stays.{stays_quiet}
use Rattle.smp_run.specs.declared.answer.Answer.TheVariants.{Turned}
use Rattle.smp_run.proofs.calls.set.Goals as goal

pub returns-clause-answer : goal.returns-clause-answer
returns-clause-answer g c =
    let me = c.args.seat.now in let call = c.set_key-made in
    rw (c.answer_or.ensures (λ x. Turned x) (λ x a p. search rules)) (
    set_answered me.machine.stops me.cpu c.args.k call.result c.requires.rest.seated.free call.ensures.may call.ensures.err)

pub returns-clause-sent : goal.returns-clause-sent
returns-clause-sent g c =
    let call = c.set_key-made in
    called_set _ _ c.args.k c.args.on c.args.seat.now call.new.self call.result call.ensures.sets call.ensures.outside call.ensures.kept

pub returns-clause-made : goal.returns-clause-made
returns-clause-made g c =
    let call = c.set_key-made in
    rw (c.answer_or.ensures (λ x. Turned x) (λ x a p. search rules)) (
    makes_set _ _ c.args.k c.args.on c.args.seat.now call.new.self call.result call.ensures.sets call.ensures.kept)

pub returns-clause-stays : goal.returns-clause-stays
returns-clause-stays g c =
    let call = c.set_key-made in
    stays_quiet _ _ c.args.seat.now call.new.self
    (quiet_set _ _ c.args.k c.args.on c.args.seat.now call.new.self call.result call.ensures.sets call.ensures.outside call.ensures.kept)
    call.ensures.same c.requires.rest
