use Rattle.std.proofs.Common.{◌≡◌, Option, Ok, rules, ap, sym, subst, ◌∙◌}
use Rattle.smp_stop_steps.specs.declared.stage.Visit.{Visit}
use Rattle.smp_multi.specs.ByValue.{OneAnswers}
use Rattle.smp_multi.specs.Cpu.{CpuValue, IsKept, cpu_of}
use Rattle.smp_multi.specs.Names.{One}
use Rattle.smp_multi.proofs.Calls.{answering_one, one_answers}
use Rattle.smp_multi.proofs.answering.come_to_one.Goals as goal

pub invariant_of-result : goal.invariant_of-result
invariant_of-result c =
    let d = c.me.inside.seat in
    let kept = subst (λ (x : Option Visit). IsKept d.known c.me.inside.number x c.me.inside.holds c.me.inside.is_open) c.in-Some.is c.me.invariant in
    let b = c.begin_one-func in
    let table = b.ensures.at.table_is ∙ sym (ap (λ (m : CpuValue). m.table) c.me.view_is ∙ c.requires.table) in
    let one : c.in-Some.visit.kind ≡ One = search rules in
    answering_one d b.new.seat c.me.inside.number c.in-Some.visit c.me.inside.holds c.me.inside.is_open kept table _ _ b.ensures.call _ one b.ensures.at
    b.ensures.known b.ensures.lives

pub returns : goal.returns
returns c =
    let d = c.me.inside.seat in
    let kept = subst (λ (x : Option Visit). IsKept d.known c.me.inside.number x c.me.inside.holds c.me.inside.is_open) c.in-Some.is c.me.invariant in
    let b = c.begin_one-func in
    let table = b.ensures.at.table_is ∙ sym (ap (λ (m : CpuValue). m.table) c.me.view_is ∙ c.requires.table) in
    let one : c.in-Some.visit.kind ≡ One = search rules in
    subst (λ (m : CpuValue). OneAnswers m (Ok (record { cpu = cpu_of b.new.seat; func = b.result.0; arg = b.result.1 }))) c.me.view_is
    (one_answers d b.new.seat c.me.inside.number c.in-Some.visit c.me.inside.holds c.me.inside.is_open kept table _ _ b.ensures.call _ one b.ensures.at
    b.ensures.known)
