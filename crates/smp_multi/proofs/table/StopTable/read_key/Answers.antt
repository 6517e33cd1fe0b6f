use Rattle.std.proofs.Common.{◌<◌, Ok, ap, sym, subst, ◌∙◌}
use Rattle.smp_mask.specs.Mask.{has}
use Rattle.smp_multi.specs.Names.{StopSetting}
use Rattle.smp_multi.specs.Cpu.{CpuValue, TableValue, cpu_of}
use Rattle.smp_multi.specs.Reads.{KeyAnswers}
use Rattle.smp_multi.proofs.Reading.{key_answers}
use Rattle.smp_multi.proofs.Showing.{rests_ungiven}
use Rattle.smp_multi.proofs.table.StopTable.read_key.Goals as goal

pub returns : goal.returns
returns g c =
    let d = c.me.inside.seat in
    let e = c.read_key.new.seat in
    let kept = c.me.invariant in
    let table = c.read_key.ensures.table
    ∙ (c.words.ensures.table ∙ sym (ap (λ (m : CpuValue). m.table) c.me.view_is ∙
    (c.requires.table ∙ sym (ap (λ (t : TableValue). t.table) c.self.view_is)))) in
    let setting = ap (λ (m : CpuValue). m.setting) c.me.view_is ∙ (c.requires.setting ∙ sym (ap (λ (t : TableValue). t.setting) c.self.view_is)) in
    let online = ap (has d.known.setting.online) kept.number_is ∙ kept.online in
    let on = ap (λ (m : CpuValue). m.irq) c.me.view_is ∙ (sym c.interrupts_on.ensures.value ∙ c.if-not-interrupts_on.false) in
    let low = subst (λ (s : StopSetting). c.args.k < s.labels.keys) (sym setting) (subst (λ n. c.args.k < n) c.keys.ensures.value c.if-k-keys.false) in
    subst (λ (m : CpuValue). KeyAnswers c.args.k m (cpu_of e) (Ok c.read_key.result)) c.me.view_is
    (let found = c.read_key.ensures.known in
    key_answers d e c.args.k found.0 c.read_key.result table found.1 found.2 found.3 c.read_key.ensures.lives online on low (rests_ungiven _ _ kept.rests))
