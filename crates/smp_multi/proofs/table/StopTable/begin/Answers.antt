use Rattle.std.proofs.Common.{ap, sym, ◌∙◌, Fits, w16, rules}
use Rattle.atomic_table.specs.Seated.{TableId}
use Rattle.smp_multi.specs.Cpu.{CpuValue, TableValue}
use Rattle.smp_multi.proofs.Kept.{begins_at}
use Rattle.smp_multi.proofs.table.StopTable.begin.Goals as goal

pub begin-requires : goal.begin-requires
begin-requires g c =
    let small : Fits w16 c.args.work.func = search rules in
    record {
      at =
          begins_at _ c.me.inside.seat c.me.inside.number c.self.inside.nr c.self.inside.setting c.me.inside.visit c.me.inside.holds c.me.inside.is_open
          c.args.work c.me.invariant
          (ap (λ (m : CpuValue). m.table) c.me.view_is ∙ (c.requires.table ∙
          (sym (ap (λ (t : TableValue). t.table) c.self.view_is) ∙ sym c.words.ensures.table)))
          (ap (λ (t : TableId). t.words) c.words.ensures.table ∙ c.self.invariant.sized)
          (ap (λ (m : CpuValue). m.setting) c.me.view_is ∙ (c.requires.setting ∙ sym (ap (λ (t : TableValue). t.setting) c.self.view_is)))
          small.fits c.keys.result c.sites.result c.keys.ensures.value c.sites.ensures.value (sym c.begin_refusal.ensures ∙ c.in_default.is);
    }
