-- By how much a patch moves the count of its key.
use Rattle.std.proofs.Common.{◌≡◌, ◌≢◌, ℕ, ◌+◌, ◌-◌, ◌<◌, ◌==◌, Bool, true, false, cond, Option, Some, None, List, length, slice_index_or, sym, subst}
use Rattle.std.proofs.Common.{refl, ap, ◌∙◌, arith, eqb-true, ne_eqb, lt-ltb}
use Rattle.std.proofs.lemmas.List.{get_or-set_same, get_or-set_other}
use Rattle.smp_labels.specs.Keys.{change_of, count_after, count_or}
use Rattle.smp_labels.specs.declared.keys.Change.{Change}
use Rattle.smp_labels.specs.declared.keys.Change.TheVariants.{Off, On, Up, Down}
use Rattle.smp_stop_steps.specs.KeyCounts.{moves}
use Rattle.smp_stop_steps.specs.Threads.KnownAfter.{counted}
use Rattle.smp_stop_steps.specs.Labels.{answer_for, count_set}
use Rattle.smp_stop_steps.specs.State.{unmoved}
use Rattle.smp_multi.specs.Names.{Work, Moved}
use Rattle.smp_multi.specs.PatchLaws.{MovesKey, PatchesMoveCounts}

module _ (w : Work) (l : List Moved) (low : w.func < length l) where
  abbrev old : Moved
  old = slice_index_or l w.func unmoved

  abbrev MovesTo : List Moved → ℕ → ℕ → Type 0
  MovesTo m up down = ((slice_index_or m w.func unmoved).up ≡ old.up + up) × ((slice_index_or m w.func unmoved).down ≡ old.down + down)
      × ((k : ℕ) → k ≢ w.func → slice_index_or m k unmoved ≡ slice_index_or l k unmoved)

  moved : (count next up down : ℕ) → next - count ≡ up → count - next ≡ down → (b : Bool) → (count == next) ≡ b
      → MovesTo (cond b l (counted l w.func count next)) up down
  moved count next up down u d true e =
      let same = eqb-true count next e in
      let none_up : up ≡ 0 = omega arith in
      let none_down : down ≡ 0 = omega arith in
      ((let a : old.up ≡ old.up + up = omega arith in a), (let a : old.down ≡ old.down + down = omega arith in a), λ k ne. refl)
  moved count next up down u d false e =
      let new = moves old count next in
      let here : slice_index_or (counted l w.func count next) w.func unmoved ≡ new = get_or-set_same l w.func new unmoved low in (
        ap (λ (m : Moved). m.up) here ∙ ap (λ n. old.up + n) u,
        ap (λ (m : Moved). m.down) here ∙ ap (λ n. old.down + n) d,
        λ k ne. get_or-set_other l w.func k new unmoved ne,
      )

  by_change : (c : Change) → change_of w.arg ≡ c → (count : ℕ) (o : Option ℕ) → count_after c count ≡ o → (up down : ℕ) → count_or count o - count ≡ up
      → count - count_or count o ≡ down → MovesKey w count l up down (answer_for o)
  by_change c is count o e up down u d =
      let after : count_after (change_of w.arg) count ≡ o = ap (λ (x : Change). count_after x count) is ∙ e in
      let next = count_or count o in
      let left : count_set w count ≡ next = ap (count_or count) after in
      let m = subst (λ n. MovesTo (cond (count == n) l (counted l w.func count n)) up down) (sym left) (moved count next up down u d (count == next) refl) in
      record { answers = ap answer_for after; ups = m.0; downs = m.1; others = m.2 }

pub moves_by_change : PatchesMoveCounts
moves_by_change w l low = record {
  off = λ count e. by_change w l low Off (ap change_of e) count (Some 0) refl 0 count (let a : 0 - count ≡ 0 = omega arith in a)
      (let a : count - 0 ≡ count = omega arith in a);
  on = λ count e some. by_change w l low On (ap change_of e) count (Some count) (ap (λ b. Some (cond b 1 count)) (ne_eqb count 0 some)) 0 0
      (let a : count - count ≡ 0 = omega arith in a) (let a : count - count ≡ 0 = omega arith in a);
  on_at_0 = λ e. by_change w l low On (ap change_of e) 0 (Some 1) refl 1 0 refl refl;
  up = λ count e room. by_change w l low Up (ap change_of e) count (Some (count + 1)) (ap (λ b. cond b (Some (count + 1)) None) (lt-ltb count 65535 room)) 1 0
      (let a : count + 1 - count ≡ 1 = omega arith in a) (let a : count - (count + 1) ≡ 0 = omega arith in a);
  up_at_the_end = λ e. by_change w l low Up (ap change_of e) 65535 None refl 0 0 refl refl;
  down = λ count e some. by_change w l low Down (ap change_of e) count (Some (count - 1)) (ap (λ b. cond b None (Some (count - 1))) (ne_eqb count 0 some)) 0 1
      (let a : count - 1 - count ≡ 0 = omega arith in a) (let a : count - (count - 1) ≡ 1 = omega (arith, some) in a);
  down_at_0 = λ e. by_change w l low Down (ap change_of e) 0 None refl 0 0 refl refl;
}
