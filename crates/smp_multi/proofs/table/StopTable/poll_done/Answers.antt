use Rattle.std.proofs.Common.{ℤ, Some, None, Ok, SFits, w32, rules, ap, sym, subst, ◌∙◌}
use Rattle.std.proofs.lemmas.Int.{to_z-of_z}
use Rattle.smp_multi.specs.Answers.{PollAnswers}
use Rattle.smp_multi.specs.Cpu.{CpuValue, TableValue, IsKept, cpu_of}
use Rattle.smp_multi.specs.Polls.{looked}
use Rattle.smp_multi.proofs.Kept.{poll_answers}
use Rattle.smp_multi.proofs.Polling.{poll_none}
use Rattle.smp_multi.proofs.table.StopTable.poll_done.Goals as goal

pub returns-then-not-is_done : goal.returns-then-not-is_done
returns-then-not-is_done g c =
    let d = c.me.inside.seat in
    let e = c.is_done.new.seat in
    let t = c.is_done.ensures.then in
    let kept = subst (λ b. IsKept d.known c.me.inside.number c.me.inside.visit c.me.inside.holds b) c.if-not-me.false c.me.invariant in
    let table = c.is_done.ensures.table
    ∙ (c.words.ensures.table ∙ sym (ap (λ (m : CpuValue). m.table) c.me.view_is ∙
    (c.requires.table ∙ sym (ap (λ (t : TableValue). t.table) c.self.view_is)))) in
    subst (λ (m : CpuValue). PollAnswers m (cpu_of e) (Ok None)) c.me.view_is
    (poll_none d e c.me.inside.number c.me.inside.visit c.me.inside.holds t.0 c.is_done.result kept table c.is_done.ensures.known t.1 t.2
    c.if-not-is_done.true)

pub returns : goal.returns
returns g c =
    let d = c.me.inside.seat in
    let e = c.collect-word.new.seat in
    let kept = subst (λ b. IsKept d.known c.me.inside.number c.me.inside.visit c.me.inside.holds b) c.if-not-me.false c.me.invariant in
    let table = c.collect-word.ensures.table
    ∙ (c.words-2.ensures.table ∙ sym (ap (λ (m : CpuValue). m.table) c.me.view_is ∙
    (c.requires.table ∙ sym (ap (λ (t : TableValue). t.table) c.self.view_is)))) in
    let small : SFits w32 c.cast_signed.result = search rules in
    let found = c.is_done.ensures.known ∙ ap (λ b. looked b d.known) c.if-not-is_done.false in
    subst (λ (z : ℤ). PollAnswers c.args.me.now (cpu_of e) (Ok (Some z))) (sym (to_z-of_z w32 c.cast_signed.result small))
    (subst (λ (m : CpuValue). PollAnswers m (cpu_of e) (Ok (Some c.cast_signed.result))) c.me.view_is
    (poll_answers d c.is_done.new.seat e c.me.inside.number c.me.inside.visit c.me.inside.holds c.collect-word.result c.cast_signed.result kept found table
    c.collect-word.ensures.known c.collect-word.ensures.lives c.cast_signed.ensures c.collect-word.ensures.fits))
