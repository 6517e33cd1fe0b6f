use Rattle.std.proofs.Common.{◌≡◌, Option, Ok, ℤ, SFits, w32, rules, ap, sym, subst, ◌∙◌}
use Rattle.std.proofs.lemmas.Int.{to_z-of_z}
use Rattle.smp_stop_steps.specs.declared.stage.Visit.{Visit}
use Rattle.smp_multi.specs.Names.{One}
use Rattle.smp_multi.specs.Answers.{RunAnswers}
use Rattle.smp_multi.specs.Cpu.{CpuValue, TableValue, IsKept, cpu_of}
use Rattle.smp_multi.proofs.Kept.{run_answers}
use Rattle.smp_multi.proofs.table.StopTable.run_one.Goals as goal

pub returns : goal.returns
returns g c =
    let d = c.me.inside.seat in
    let e = c.run_one-answer.new.seat in
    let kept = subst (λ (x : Option Visit). IsKept d.known c.me.inside.number x c.me.inside.holds c.me.inside.is_open) c.in-Some.is c.me.invariant in
    let table = c.run_one-answer.ensures.table
    ∙ (c.words.ensures.table ∙ sym (ap (λ (m : CpuValue). m.table) c.me.view_is ∙
    (c.requires.table ∙ sym (ap (λ (t : TableValue). t.table) c.self.view_is)))) in
    let one : c.in-Some.visit.kind ≡ One = search rules in
    let small : SFits w32 c.run_one-answer.result = search rules in
    let leads = g.F.StopFunc.leads in
    subst (λ (z : ℤ). RunAnswers leads c.args.me.now (cpu_of e) c.args.func.now c.run_one-answer.new.func (Ok z))
    (sym (to_z-of_z w32 c.run_one-answer.result small))
    (subst (λ (m : CpuValue). RunAnswers leads m (cpu_of e) c.args.func.now c.run_one-answer.new.func (Ok c.run_one-answer.result))
    c.me.view_is
    (run_answers leads d e c.me.inside.number c.in-Some.visit c.me.inside.holds c.me.inside.is_open c.args.func.now c.run_one-answer.new.func
    c.run_one-answer.result kept one table c.run_one-answer.ensures.known c.run_one-answer.ensures.heard))
