use Rattle.std.proofs.Common.{◌≡◌, true, false, None, Result, IfOk, IfErr, inr, refl, ap, sym, subst, ◌∙◌}
use Rattle.smp_mask.specs.Mask.{has}
use Rattle.smp_mask.specs.declared.error.SmpError.{SmpError}
use Rattle.smp_mask.specs.declared.error.SmpError.TheVariants as error
use Rattle.smp_stop_steps.specs.Start.{has_slot}
use Rattle.smp_multi.specs.Names.{Slot, Kind, Free, Idle}
use Rattle.smp_multi.specs.Names.field
use Rattle.smp_multi.specs.Answers.{Enters, Misses, RefusesEntry}
use Rattle.smp_multi.specs.Laws.{FindsNoCall}
use Rattle.smp_multi.specs.Cpu.{CpuValue, TableValue, IsKept, cpu_of, inside_of, is_in, misses}
use Rattle.smp_multi.specs.declared.cpu.StopCpu.TheInside.{Inside}
use Rattle.smp_multi.specs.contracts.cpu.StopCpu as cpu
use Rattle.smp_multi.proofs.Kept.{is_free, idle_outside, kept_missed, kept_entered, enters_answer, low_slot}
use Rattle.smp_multi.proofs.Showing.{finds, rests_ungiven}
use Rattle.smp_multi.proofs.table.StopTable.enter.Given as given
use Rattle.smp_multi.proofs.table.StopTable.enter.Goals.{in-Some, in-None}
use Rattle.smp_multi.proofs.table.StopTable.enter.Goals as goal

there : (g : given.Over) (c : goal.Joined-enter g) → has_slot c.self.inside.nr c.args.slot ≡ true
there g c = sym c.has_slot.ensures ∙ c.if-not-has_slot.false

free : (g : given.Over) (c : goal.Joined-enter g) → (c.me.inside.visit ≡ None) × (c.me.inside.seat.known.seat ≡ Free)
free g c = is_free c.me.inside.visit c.me.inside.seat.known.seat c.me.invariant.rests
    (ap (λ (m : CpuValue). is_in m.inside) c.me.view_is ∙ (sym c.in_stop.ensures ∙ c.if-in_stop.false))

idle : (g : given.Over) (c : goal.Joined-enter g) → c.me.inside.seat.known.part.calling ≡ Idle
idle g c = idle_outside c.me.inside.visit c.me.inside.seat.known.carried c.me.inside.seat.known.part.calling (free g c).0 c.me.invariant.quiet

pub invariant_of-me : goal.invariant_of-me
invariant_of-me g c = elim c.match-enter.branch [
  | in-Some w ↦ let k = w.in-Some.ensures.known in
      subst (λ (m : Inside). IsKept m.seat.known m.number m.visit m.holds m.is_open) (sym w.me-inside-is)
      (kept_entered _ _ c.me.inside.number c.me.inside.visit c.me.inside.holds c.me.inside.is_open w.in-Some.visit c.args.slot k.0 c.me.invariant
      (idle g c) k.1 k.3
      (low_slot c.self.inside.nr c.args.slot (there g c)) c.enter.ensures.lives)
  | in-None w ↦ subst (λ (m : Inside). IsKept m.seat.known m.number m.visit m.holds m.is_open) (sym w.me-inside-is)
      (kept_missed _ _ c.me.inside.number c.me.inside.visit c.me.inside.holds c.me.inside.is_open c.args.slot c.me.invariant w.in-None.ensures.known
      c.enter.ensures.lives)
]

pub returns-clause-ok : goal.returns-clause-ok
returns-clause-ok g c = elim c.match-enter.branch [
  | in-Some w ↦ let k = w.in-Some.ensures.known in
      let d = c.me.inside.seat in
      let table = c.enter.ensures.table
      ∙ (c.words.ensures.table ∙ sym (ap (λ (m : CpuValue). m.table) c.me.view_is ∙
      (c.requires.table ∙ sym (ap (λ (t : TableValue). t.table) c.self.view_is)))) in
      subst (λ (r : Result Kind SmpError). IfOk r (λ kind. Enters c.args.self.now c.args.slot c.args.me.now (cpu.the_view c.match-enter.me-inside) kind))
      (sym w.result-is)
      (subst (λ (m : Inside). Enters c.args.self.now c.args.slot c.args.me.now (cpu.the_view m) w.in-Some.visit.kind) (sym w.me-inside-is)
      (subst (λ (m : CpuValue). Enters c.args.self.now c.args.slot m (cpu_of c.enter.new.seat) w.in-Some.visit.kind) c.me.view_is
      (subst (λ (t : TableValue). Enters t c.args.slot (cpu_of d)
      (cpu_of c.enter.new.seat) w.in-Some.visit.kind) c.self.view_is
      (enters_answer (record { table = c.self.inside.owner.table.shared.table_id; nr = c.self.inside.nr; setting = c.self.inside.setting }) d
      c.enter.new.seat c.args.slot k.0 w.in-Some.visit (free g c).1 (idle g c) (there g c) table
      k.1 k.2 k.3))))
  | in-None w ↦
      subst (λ (r : Result Kind SmpError). IfOk r (λ kind. Enters c.args.self.now c.args.slot c.args.me.now (cpu.the_view c.match-enter.me-inside) kind))
      (sym w.result-is) tt
]

pub returns-clause-err : goal.returns-clause-err
returns-clause-err g c =
    let Stales : Result Kind SmpError → Type 0 = λ r. IfErr r (λ e. (e ≡ error.Stale)
    × RefusesEntry c.args.self.now c.args.slot c.args.me.now (cpu.the_view c.match-enter.me-inside)) in
    elim c.match-enter.branch [
      | in-Some w ↦ subst Stales (sym w.result-is) tt
      | in-None w ↦
          let d = c.me.inside.seat in
          let t = c.enter.ensures.then in
          let table = c.enter.ensures.table
          ∙ (c.words.ensures.table ∙ sym (ap (λ (m : CpuValue). m.table) c.me.view_is ∙
          (c.requires.table ∙ sym (ap (λ (t : TableValue). t.table) c.self.view_is)))) in
          let known = w.in-None.ensures.known in
          let view : cpu_of c.enter.new.seat ≡ misses c.args.slot (cpu_of d) = λ i. cpu_of (record { table = table i; known = known i }) in
          let found = finds d (Slot c.args.slot field.Roll) t.0 (rests_ungiven _ _ c.me.invariant.rests) t.1 in
          let none : has t.0 d.known.number ≡ false = ap (has t.0) c.me.invariant.number_is ∙ t.2 w.in-None.is in
          let looked : Misses c.args.self.now c.args.slot c.args.me.now (cpu_of c.enter.new.seat) =
          record {
            outside = sym (ap (λ (m : CpuValue). m.inside) c.me.view_is) ∙ ap inside_of (free g c).1;
            there = subst (λ (t : TableValue). has_slot t.nr c.args.slot ≡ true) c.self.view_is (there g c);
            none = subst (λ (m : CpuValue). FindsNoCall m c.args.slot) c.me.view_is (t.0, found, none);
            is = view ∙ ap (misses c.args.slot) c.me.view_is;
          } in
          subst Stales (sym w.result-is) (
            refl,
            inr (subst (λ (m : Inside). Misses c.args.self.now c.args.slot c.args.me.now (cpu.the_view m)) (sym w.me-inside-is) looked),
          )
    ]
