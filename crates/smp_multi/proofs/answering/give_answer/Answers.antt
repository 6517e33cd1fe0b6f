use Rattle.std.proofs.Common.{◌≡◌, ◌≢◌, ℤ, SFits, w32, rules, ap, sym, subst, ◌∙◌}
use Rattle.std.proofs.lemmas.Int.{to_z-of_z}
use Rattle.smp_stop_steps.specs.Threads.Known.{carrying, stepped}
use Rattle.smp_stop_steps.specs.Threads.KnownAfter.{completed_with}
use Rattle.smp_stop_steps.specs.Start.{answer_word}
use Rattle.smp_multi.specs.ByValue.{Answered}
use Rattle.smp_multi.specs.Cpu.{AnsweringValue, cpu_of}
use Rattle.smp_multi.specs.Names.{One}
use Rattle.smp_multi.specs.Places.{work_in}
use Rattle.smp_multi.specs.Rounds.{passed_by}
use Rattle.smp_multi.specs.StepCounts.{completing}
use Rattle.smp_multi.proofs.Calls.{answered_one, answered_run, at_run_call, calls_now_some, kept_one, kept_run, still_one, still_run}
use Rattle.smp_multi.proofs.answering.give_answer.Goals as goal

pub answer_one-requires-clause-at : goal.answer_one-requires-clause-at
answer_one-requires-clause-at c =
    let one : c.answering.inside.visit.kind ≡ One = search rules in
    let table = ap (λ (a : AnsweringValue). a.cpu.table) c.answering.view_is ∙ c.requires.table in
    still_one _ _ _ _ _ _ _ c.answering.invariant _ one table c.requires.sized

pub answer_one-requires-clause-calls : goal.answer_one-requires-clause-calls
answer_one-requires-clause-calls c = calls_now_some c.answering.inside.seat _ _ _ _ _ _ c.answering.invariant

pub invariant_of-result : goal.invariant_of-result
invariant_of-result c =
    let d = c.answering.inside.seat in
    let x = c.answer_one.new.seat in
    let one : c.answering.inside.visit.kind ≡ One = search rules in
    let table = ap (λ (a : AnsweringValue). a.cpu.table) c.answering.view_is ∙ c.requires.table in
    let e = c.answer_one.ensures in
    let small : SFits w32 c.args.answer = search rules in
    let known = subst (λ (z : ℤ). x.known ≡ stepped (completing (answer_word z)) (completed_with 0 c.answering.inside.visit.slot (work_in d.known.seat)
    (answer_word z) (carrying 0 d.known))) (to_z-of_z w32 c.args.answer small) e.known in
    kept_one d _ _ _ _ _ _ c.answering.invariant x (e.table ∙ sym table) c.args.answer one known e.lives

pub returns-then-eq : goal.returns-then-eq
returns-then-eq c =
    let d = c.answering.inside.seat in
    let x = c.answer_one.new.seat in
    let one : c.answering.inside.visit.kind ≡ One = search rules in
    let table = ap (λ (a : AnsweringValue). a.cpu.table) c.answering.view_is ∙ c.requires.table in
    let e = c.answer_one.ensures in
    let small : SFits w32 c.args.answer = search rules in
    let known = subst (λ (z : ℤ). x.known ≡ stepped (completing (answer_word z)) (completed_with 0 c.answering.inside.visit.slot (work_in d.known.seat)
    (answer_word z) (carrying 0 d.known))) (to_z-of_z w32 c.args.answer small) e.known in
    subst (λ (a : AnsweringValue). Answered a c.args.answer (cpu_of x)) c.answering.view_is
    (answered_one d _ _ _ _ _ _ c.answering.invariant x (e.table ∙ sym table) c.args.answer one known)

pub answer_run-visit-requires-clause-at : goal.answer_run-visit-requires-clause-at
answer_run-visit-requires-clause-at c =
    let several : c.answering.inside.visit.kind ≢ One = search rules in
    let table = ap (λ (a : AnsweringValue). a.cpu.table) c.answering.view_is ∙ c.requires.table in
    still_run _ _ _ _ _ _ _ c.answering.invariant _ several table c.requires.sized

pub answer_run-visit-requires-clause-calls : goal.answer_run-visit-requires-clause-calls
answer_run-visit-requires-clause-calls c = calls_now_some c.answering.inside.seat _ _ _ _ _ _ c.answering.invariant

pub answer_run-visit-requires-clause-alone : goal.answer_run-visit-requires-clause-alone
answer_run-visit-requires-clause-alone c =
    let several : c.answering.inside.visit.kind ≢ One = search rules in
    (at_run_call c.answering.inside.seat _ _ _ _ _ _ c.answering.invariant several).3

pub invariant_of-result-2 : goal.invariant_of-result-2
invariant_of-result-2 c =
    let d = c.answering.inside.seat in
    let x = c.answer_run-visit.new.seat in
    let several : c.answering.inside.visit.kind ≢ One = search rules in
    let table = ap (λ (a : AnsweringValue). a.cpu.table) c.answering.view_is ∙ c.requires.table in
    let e = c.answer_run-visit.ensures in
    let small : SFits w32 c.args.answer = search rules in
    let known = subst (λ (z : ℤ). x.known ≡ stepped 1 (passed_by d.known.seat (carrying (answer_word z) d.known))) (to_z-of_z w32 c.args.answer small)
    e.known in
    kept_run d _ _ _ _ _ _ c.answering.invariant x (e.at.table_is ∙ sym table) c.args.answer several known _ c.answer_run-visit.result e.at e.lives

pub returns : goal.returns
returns c =
    let d = c.answering.inside.seat in
    let x = c.answer_run-visit.new.seat in
    let several : c.answering.inside.visit.kind ≢ One = search rules in
    let table = ap (λ (a : AnsweringValue). a.cpu.table) c.answering.view_is ∙ c.requires.table in
    let e = c.answer_run-visit.ensures in
    let small : SFits w32 c.args.answer = search rules in
    let known = subst (λ (z : ℤ). x.known ≡ stepped 1 (passed_by d.known.seat (carrying (answer_word z) d.known))) (to_z-of_z w32 c.args.answer small)
    e.known in
    subst (λ (a : AnsweringValue). Answered a c.args.answer (cpu_of x)) c.answering.view_is
    (answered_run d _ _ _ _ _ _ c.answering.invariant x (e.at.table_is ∙ sym table) c.args.answer several known)
