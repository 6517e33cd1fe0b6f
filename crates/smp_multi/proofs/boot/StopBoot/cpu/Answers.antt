use Rattle.std.proofs.Common.{◌≡◌, true, Option, List, set, map, sym, ap, ◌∙◌, subst}
use Rattle.std.specs.Prelude.{is_some}
use Rattle.std.proofs.lemmas.List.{map-set}
use Rattle.smp_mask.specs.Mask.{has}
use Rattle.smp_multi.specs.Cpu.{BootValue, CpuValue, fresh_cpu, is_left, given}
use Rattle.smp_multi.specs.Rule.{made_with}
use Rattle.smp_multi.proofs.Seating.{taken_from, waits_fresh, left_is}
use Rattle.smp_multi.proofs.boot.StopBoot.cpu.Goals as goal
use Rattle.smp_multi.proofs.boot.StopBoot.cpu.Goals.{in-Some, in-None}

pub returns-clause-ok : goal.returns-clause-ok
returns-clause-ok g c = elim c.match-take.branch [
  | in-Some w ↦
      let b = c.self.inside in
      let items : List (Option CpuValue) = b.waiting.items in
      let cpu = c.args.cpu in
      let m = c.self.invariant in
      let t = b.maker.raw.table_id in
      let k = made_with b.maker.raw.me.0 in
      let old : BootValue = record { table = t; setting = k; left = map is_some items } in
      let new : BootValue = record { table = t; setting = k; left = map is_some (set items cpu c.take.new.self) } in
      let online : has b.online cpu ≡ true = sym c.contains.ensures.member ∙ c.if-not-contains.false in
      let here = taken_from items cpu c.take.result c.index_mut.result.now (m.sized cpu online) c.take.ensures.value c.index_mut.ensures.value ∙ w.in-Some.is in
      let left : is_left old cpu ≡ true = left_is items cpu _ here in
      let gone : new ≡ given cpu old =
      λ i. record {
        table = t;
        setting = k;
        left = (map-set is_some items cpu c.take.new.self ∙ ap (λ (o : Option CpuValue). set (map is_some items) cpu (is_some o)) c.take.ensures.after) i;
      } in
      rw (w.result-is) (subst (λ (v : BootValue). (w.in-Some.given ≡ fresh_cpu v.table v.setting cpu) × (has v.setting.online cpu ≡ true)
      × (is_left v cpu ≡ true) × (new ≡ given cpu v)) c.self.view_is
      (waits_fresh t k b.online items cpu w.in-Some.given m online here, ap (λ o. has o cpu) (sym m.online_is) ∙ online, left, gone))
  | in-None w ↦ rw (w.result-is) tt
]
