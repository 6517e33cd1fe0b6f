use Rattle.std.proofs.Common.{◌≡◌, ◌≢◌, Option, Ok, rules, ap, sym, subst, ◌∙◌}
use Rattle.smp_words.specs.declared.phase.TheConstants.{EXIT}
use Rattle.smp_stop_steps.specs.declared.stage.Visit.{Visit}
use Rattle.smp_multi.specs.Advance.{FinishAnswers}
use Rattle.smp_multi.specs.Cpu.{CpuValue, TableValue, IsKept, cpu_of}
use Rattle.smp_multi.specs.Names.{One}
use Rattle.smp_multi.proofs.Finishing.{finish_answers}
use Rattle.smp_multi.proofs.table.StopTable.finish.Goals as goal

pub returns : goal.returns
returns g c =
    let d = c.me.inside.seat in
    let e = c.finish.new.seat in
    let v = c.in-Some.visit in
    let kept = subst (λ (x : Option Visit). IsKept d.known c.me.inside.number x c.me.inside.holds c.me.inside.is_open) c.in-Some.is c.me.invariant in
    let table = c.finish.ensures.table
    ∙ (c.words.ensures.table ∙ sym (ap (λ (m : CpuValue). m.table) c.me.view_is ∙
    (c.requires.table ∙ sym (ap (λ (t : TableValue). t.table) c.self.view_is)))) in
    let several : v.kind ≢ One = search rules in
    let left : v.acked ≡ EXIT = search rules in
    subst (λ (m : CpuValue). FinishAnswers m (cpu_of e) (Ok _)) c.me.view_is
    (finish_answers d.table d c.me.inside.number v c.me.inside.holds c.me.inside.is_open kept several left e table c.finish.ensures.known _)
