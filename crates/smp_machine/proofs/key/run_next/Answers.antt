use Rattle.std.proofs.Common.{ℕ, eqb-true, sym, ap, ◌∙◌}
use Rattle.smp_stop_steps.specs.Tells.{first_readings}
use Rattle.smp_machine.specs.Own.{Own}
use Rattle.smp_machine.specs.Passes.{PassesValue}
use Rattle.smp_machine.proofs.Polls.{works_next}
use Rattle.smp_machine.proofs.Served.{own_from, own_to, own_next}
use Rattle.smp_machine.proofs.Stopping.{works_after}
use Rattle.smp_machine.proofs.KeyStops.{own_read}
use Rattle.smp_machine.proofs.key.run_next.Goals as goal

pub returns-in-None-clause-works : goal.returns-in-None-clause-works
returns-in-None-clause-works g c =
    let hears = g.H.Handler.leads in
    let runs = g.F.StopFunc.leads in
    works_after hears runs (λ o. o) c.turn.ensures.works
    (works_next hears runs c.args.context.machine.now c.turn.new.me c.take_next.new.me c.turn.new.handler c.turn.new.run c.take_next.result c.take_next.ensures)

pub returns-in-Some-clause-works : goal.returns-in-Some-clause-works
returns-in-Some-clause-works g c =
    let hears = g.H.Handler.leads in
    let runs = g.F.StopFunc.leads in
    let took = works_next hears runs c.args.context.machine.now c.turn.new.me c.take_next.new.me c.turn.new.handler c.turn.new.run c.take_next.result
    c.take_next.ensures in
    works_after hears runs (λ o. o) (works_after hears runs (λ o. o) c.turn.ensures.works took) c.finish_work.ensures.works

pub returns-in-Some-clause-read : goal.returns-in-Some-clause-read
returns-in-Some-clause-read g c own =
    let next = c.in-Some.ensures in
    let number = c.turn.ensures.works.number_is in
    own_read c.args.context.machine.now.stops c.turn.new.me.stops c.take_next.new.me.stops c.finish_work.new.me.stops next.front c.in-Some.slot c.args.work.now
    next.stops_are (ap (λ (o : Own). o.pending) c.turn.ensures.works.own_is ∙ c.requires.begun) c.requires.several
    (eqb-true c.in-Some.slot c.number-number.result own ∙ (c.number-number.ensures.number.1 ∙ sym number)) c.finish_work.ensures.read
    ∙ ap (λ (n : ℕ). first_readings n n c.args.work.now) number

pub returns-in-Some-clause-last : goal.returns-in-Some-clause-last
returns-in-Some-clause-last g c own =
    let before = ap (λ (p : PassesValue). p.number) c.turn.ensures.passes in
    let same = eqb-true c.in-Some.slot c.number-number.result own ∙ (c.number-number.ensures.number.2 ∙ sym before) in
    own_to c.args.me.now.passes c.take_next.new.me.passes c.finish_work.new.me.passes c.finish_work.ensures.passes
    (own_from c.args.me.now.passes c.turn.new.me.passes c.take_next.new.me.passes c.turn.ensures.passes
    (own_next c.args.context.machine.now c.turn.new.me c.take_next.new.me c.in-Some.slot same c.in-Some.ensures))
