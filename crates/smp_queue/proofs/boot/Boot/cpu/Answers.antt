use Rattle.std.proofs.Common.{◌≡◌, ℕ, true, false, Option, List, [], set, map, sym, refl, ap, ◌∙◌, subst, slice_index_or}
use Rattle.std.proofs.lemmas.Result.{IfOk-weaker}
use Rattle.smp_words.specs.Size.{cpus}
use Rattle.std.specs.Prelude.{is_some}
use Rattle.std.proofs.lemmas.List.{map-set}
use Rattle.smp_mask.specs.Mask.{has}
use Rattle.smp_queue.specs.{BootValue, CpuValue, fresh_cpu, table_with, is_left, given, made_with, confirmed_at}
use Rattle.smp_queue.proofs.TheRule.Seating.{taken_from, waits_fresh, left_is, born_confirmed, born_owes}
use Rattle.smp_queue.proofs.boot.Boot.cpu.Goals.{in-Some, in-None}
use Rattle.smp_queue.proofs.boot.Boot.cpu.Goals as goal

pub returns-clause-ok : goal.returns-clause-ok
returns-clause-ok g c = elim c.match-take.branch [
  | in-Some w ↦
      let b = c.self.inside in
      let items : List (Option CpuValue) = b.waiting.items in
      let cpu = c.args.cpu in
      let m = c.self.invariant in
      let t = table_with b.maker.raw.table_id (made_with b.maker.raw.me.0) in
      let old : BootValue = record { table = t; left = map is_some items } in
      let new : BootValue = record { table = t; left = map is_some (set items cpu c.take.new.self) } in
      let online : has b.online cpu ≡ true = sym c.contains.ensures.member ∙ c.if-not-contains.false in
      let here = taken_from items cpu c.take.result c.index_mut.result.now (m.sized cpu online) c.take.ensures.value c.index_mut.ensures.value ∙ w.in-Some.is in
      let left : is_left old cpu ≡ true = left_is items cpu _ here in
      let gone : new ≡ given cpu old =
      λ i. record {
        table = t;
        left = (map-set is_some items cpu c.take.new.self ∙ ap (λ (o : Option CpuValue). set (map is_some items) cpu (is_some o)) c.take.ensures.after) i;
      } in
      rw (w.result-is) (subst (λ (v : BootValue). (w.in-Some.given ≡ fresh_cpu v.table cpu) × (has v.table.online cpu ≡ true) × (is_left v cpu ≡ true)
      × (new ≡ given cpu v)) c.self.view_is
      (waits_fresh t b.online items cpu w.in-Some.given m online here, ap (λ o. has o cpu) (sym m.online_is) ∙ online, left, gone))
  | in-None w ↦ rw (w.result-is) tt
]

pub returns-clause-unused : goal.returns-clause-unused
returns-clause-unused g c = IfOk-weaker c.match-take.result _ _ (λ v ok k small. subst (λ (x : CpuValue). confirmed_at x k ≡ true) (sym ok.0)
    (born_confirmed c.args.self.now.table c.args.cpu k (c.contains.ensures.within c.if-not-contains.false) small)) (returns-clause-ok g c)

pub returns-clause-idle : goal.returns-clause-idle
returns-clause-idle g c = IfOk-weaker c.match-take.result _ _ (λ v ok. subst (λ (x : CpuValue). (x.part.sent ≡ []) × (x.part.taken ≡ [])
    × (x.part.ran ≡ []) × (x.part.asked ≡ []) × (x.log ≡ []) × (x.steps ≡ 0) × ((to : ℕ) → slice_index_or x.part.owes to false ≡ false)) (sym ok.0)
    (refl, refl, refl, refl, refl, refl, λ to. born_owes cpus to)) (returns-clause-ok g c)
