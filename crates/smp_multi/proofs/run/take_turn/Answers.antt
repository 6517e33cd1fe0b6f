use Rattle.std.proofs.Common.{◌≡◌, ℤ, SFits, w32, rules, subst}
use Rattle.std.proofs.lemmas.Int.{to_z-of_z}
use Rattle.smp_stop_steps.specs.Threads.Known.{carrying, stepped}
use Rattle.smp_stop_steps.specs.Start.{answer_word}
use Rattle.smp_multi.specs.AtCall.{Goes}
use Rattle.smp_multi.specs.Names.{Multi}
use Rattle.smp_multi.specs.Rounds.{passed_by}
use Rattle.smp_multi.specs.declared.turn.Go.{Go}
use Rattle.smp_multi.proofs.Calls.{has_run, quiet_turn}
use Rattle.smp_multi.proofs.Turning.{run_alone}
use Rattle.smp_multi.proofs.run.take_turn.Goals as goal

pub returns-in-Over-clause-answers : goal.returns-in-Over-clause-answers
returns-in-Over-clause-answers g c =
    let k = c.args.seat.now.known in
    let e = c.begin_turn.new.seat in
    let goes = subst (λ (r : Go). Goes c.args.words.shared.now.table_id k e c.args.visit r) c.in-Over.is c.begin_turn.ensures.goes in
    quiet_turn g.F.StopFunc.leads _ _ _ _ _ _ goes.1

pub answer_run-after-requires-clause-alone : goal.answer_run-after-requires-clause-alone
answer_run-after-requires-clause-alone g c =
    let k = c.args.seat.now.known in
    let e = c.begin_turn.new.seat in
    let goes = subst (λ (r : Go). Goes c.args.words.shared.now.table_id k e c.args.visit r) c.in-Call.is c.begin_turn.ensures.goes in
    run_alone _ e c.args.visit Multi goes.0

pub returns-in-Call-clause-answers : goal.returns-in-Call-clause-answers
returns-in-Call-clause-answers g c =
    let k = c.args.seat.now.known in
    let e = c.begin_turn.new.seat in
    let x = c.answer_run-after.new.seat in
    let goes = subst (λ (r : Go). Goes c.args.words.shared.now.table_id k e c.args.visit r) c.in-Call.is c.begin_turn.ensures.goes in
    let small : SFits w32 c.run-answer.result = search rules in
    let known =
    subst (λ (z : ℤ). x.known ≡ stepped 1 (passed_by e.known.seat (carrying (answer_word z) e.known))) (to_z-of_z w32 c.run-answer.result small)
    c.answer_run-after.ensures.known in
    let leads = g.F.StopFunc.leads in
    has_run leads _ k e x.known c.args.visit c.answer_run-after.result c.args.number c.in-Call.function c.in-Call.arg c.run-answer.result _ _ goes.0
    goes.1 goes.2 c.requires.number known c.answer_run-after.ensures.visit c.run-answer.ensures
