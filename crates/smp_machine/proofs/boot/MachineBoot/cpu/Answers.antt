use Rattle.std.proofs.Common.{◌≡◌, true, Option, List, set, map, sym, ap, ◌∙◌, subst}
use Rattle.std.specs.Prelude.{is_some}
use Rattle.std.proofs.lemmas.List.{map-set}
use Rattle.smp_mask.specs.Mask.{has}
use Rattle.smp_machine.specs.MachineCpu.{BootValue, MachineCpuValue, fresh_place, is_left, given}
use Rattle.smp_machine.proofs.Seating.{taken_from, waits_fresh, left_is}
use Rattle.smp_machine.proofs.boot.MachineBoot.cpu.Goals as goal
use Rattle.smp_machine.proofs.boot.MachineBoot.cpu.Goals.{in-Some, in-None}

pub returns-clause-ok : goal.returns-clause-ok
returns-clause-ok g c = elim c.match-take.branch [
  | in-Some w ↦
      let b = c.self.inside in
      let items : List (Option MachineCpuValue) = b.waiting.items in
      let cpu = c.args.cpu in
      let m = c.self.invariant in
      let old : BootValue = record { machine = b.machine.value; left = map is_some items } in
      let new : BootValue = record { machine = b.machine.value; left = map is_some (set items cpu c.take.new.self) } in
      let online : has b.online cpu ≡ true = sym c.contains.ensures.member ∙ c.if-not-contains.false in
      let here = taken_from items cpu c.take.result c.index_mut.result.now (m.sized cpu online) c.take.ensures.value c.index_mut.ensures.value ∙ w.in-Some.is in
      let left : is_left old cpu ≡ true = left_is items cpu _ here in
      let gone : new ≡ given cpu old =
      λ i. record {
        machine = b.machine.value;
        left = (map-set is_some items cpu c.take.new.self
            ∙ ap (λ (o : Option MachineCpuValue). set (map is_some items) cpu (is_some o)) c.take.ensures.after) i;
      } in
      rw (w.result-is) (subst (λ (v : BootValue). (w.in-Some.given ≡ fresh_place v.machine cpu) × (has v.machine.calls.online cpu ≡ true)
      × (is_left v cpu ≡ true) × (new ≡ given cpu v)) c.self.view_is
      (waits_fresh b.machine.value b.online items cpu w.in-Some.given m online here, ap (λ o. has o cpu) (sym m.online_is) ∙ online, left, gone))
  | in-None w ↦ rw (w.result-is) tt
]
