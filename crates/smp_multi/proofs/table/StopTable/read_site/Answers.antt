use Rattle.std.proofs.Common.{◌<◌, Ok, length, ap, sym, subst, ◌∙◌}
use Rattle.smp_mask.specs.Mask.{has}
use Rattle.smp_multi.specs.Names.{StopSetting}
use Rattle.smp_multi.specs.Cpu.{CpuValue, TableValue, cpu_of}
use Rattle.smp_multi.specs.Reads.{SiteAnswers}
use Rattle.smp_multi.proofs.Reading.{site_answers}
use Rattle.smp_multi.proofs.table.StopTable.read_site.Goals as goal

pub returns : goal.returns
returns g c =
    let d = c.me.inside.seat in
    let e = c.read_site.new.seat in
    let kept = c.me.invariant in
    let table = c.read_site.ensures.table
    ∙ (c.words.ensures.table ∙ sym (ap (λ (m : CpuValue). m.table) c.me.view_is ∙
    (c.requires.table ∙ sym (ap (λ (t : TableValue). t.table) c.self.view_is)))) in
    let setting = ap (λ (m : CpuValue). m.setting) c.me.view_is ∙ (c.requires.setting ∙ sym (ap (λ (t : TableValue). t.setting) c.self.view_is)) in
    let online = ap (has d.known.setting.online) kept.number_is ∙ kept.online in
    let on = ap (λ (m : CpuValue). m.irq) c.me.view_is ∙ (sym c.interrupts_on.ensures.value ∙ c.if-not-interrupts_on.false) in
    let low = subst (λ (s : StopSetting). c.args.i < length s.labels.entries) (sym setting)
    (subst (λ n. c.args.i < n) c.sites.ensures.value c.if-i-sites.false) in
    subst (λ (m : CpuValue). SiteAnswers c.args.i m (cpu_of e) (Ok c.read_site.result)) c.me.view_is
    (site_answers d e c.args.i c.read_site.result table c.read_site.ensures.known c.read_site.ensures.lives online on low)
