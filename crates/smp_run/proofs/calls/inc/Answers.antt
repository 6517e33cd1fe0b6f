use Rattle.std.proofs.Common.{rules, true}
use Rattle.smp_run.proofs.Refusals.{counted}
use Rattle.smp_run.proofs.Staying.{quiet_counted, called_counted}
use Rattle.smp_run.proofs.Making.{makes_count}
use Rattle.smp_run.proofs.Stays.{stays_quiet}
use Rattle.smp_run.specs.declared.answer.Answer.TheVariants.{Turned}
use Rattle.smp_run.proofs.calls.inc.Goals as goal

pub returns-clause-answer : goal.returns-clause-answer
returns-clause-answer g c =
    let me = c.args.seat.now in let call = c.key_inc-made in
    rw (c.answer_or.ensures (λ x. Turned x) (λ x a p. search rules)) (
    counted _ _ me.machine.stops c.args.k true me.cpu _ _ call.new.self.cpu _ _ call.result c.requires.rest.seated.free
    call.ensures.counts)

pub returns-clause-sent : goal.returns-clause-sent
returns-clause-sent g c =
    let call = c.key_inc-made in called_counted _ _ c.args.k true c.args.seat.now call.new.self call.result call.ensures.counts

pub returns-clause-made : goal.returns-clause-made
returns-clause-made g c =
    let call = c.key_inc-made in
    rw (c.answer_or.ensures (λ x. Turned x) (λ x a p. search rules)) (
    makes_count _ _ c.args.k true c.args.seat.now call.new.self call.result call.ensures.counts)

pub returns-clause-stays : goal.returns-clause-stays
returns-clause-stays g c =
    let call = c.key_inc-made in
    stays_quiet _ _ c.args.seat.now call.new.self
    (quiet_counted _ _ c.args.k true c.args.seat.now call.new.self call.result call.ensures.counts)
    call.ensures.same c.requires.rest
