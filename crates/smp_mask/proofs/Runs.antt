-- The items of a mask: one run of members after another.
use Rattle.std.proofs.Common.{◌≡◌, ℕ, zero, suc, ◌+◌, ◌-◌, ◌<◌, ◌≤◌, true, false, ◌&&◌, ◌==◌, nat_lt, List, [], ◌∷◌, ◌++◌, append-nil, subst, refl, sym, ap}
use Rattle.std.proofs.Common.{◌∙◌, inl, inr, arith}
use Rattle.std.proofs.lemmas.Bool.{cases_Bool, cases_eq, both_ways}
use Rattle.std.proofs.lemmas.Bool.Decides.{nat_tests}
use Rattle.std.specs.List.{flat_map}
use Rattle.smp_mask.specs.Mask.{has, members_below, IsLeast}
use Rattle.smp_mask.specs.CpuList.{lowest, highest, IsItem, item_text, joined}
use Rattle.smp_mask.specs.ListText.{put_before, items_of, item_between, IsProper}
use Rattle.smp_mask.proofs.Members.{least_off}
use Rattle.smp_mask.proofs.Sets.{above_of, has_above_of}
use Rattle.smp_mask.specs.declared.item.Item.{Item}
use Rattle.smp_mask.specs.declared.item.Item.TheVariants.{One, Run}

-- the CPUs ascend from b on, below w
abbrev pub Ascend : ℕ → ℕ → List ℕ → Type 0
Ascend w b [] = Unit {0}
Ascend w b (c ∷ cs) = (b ≤ c) × (c < w) × Ascend w (suc c) cs

-- the items are canonical, and begin from b on
abbrev pub AreFrom : ℕ → ℕ → List Item → Type 0
AreFrom w b [] = Unit {0}
AreFrom w b (i ∷ is) = (b ≤ lowest i) × IsProper i × IsItem w i × AreFrom w (highest i + 2) is

put_from : (w b cpu : ℕ) (is : List Item) → b ≤ cpu → cpu < w → AreFrom w (suc cpu) is → AreFrom w b (put_before cpu is)
put_from w b cpu [] from below h = (from, tt, (omega arith, below), tt)
put_from w b cpu (One low ∷ is) from below h = elim (cases_Bool (low == cpu + 1)) [
  | inl next ↦
      let e : low ≡ cpu + 1 = grind (arith, nat_tests, next) in
      rw next (from, omega (arith, e), (omega (arith, e), h.2.1), h.3)
  | inr apart ↦
      let e : cpu + 2 ≤ low = grind (arith, nat_tests, apart, h.0) in
      rw apart (from, tt, (omega arith, below), (e, h.1, h.2, h.3))
]
put_from w b cpu (Run low high ∷ is) from below h = elim (cases_Bool (low == cpu + 1)) [
  | inl next ↦
      let e : low ≡ cpu + 1 = grind (arith, nat_tests, next) in
      rw next (from, omega (arith, e, h.1), (omega (arith, e, h.1), h.2.1), h.3)
  | inr apart ↦
      let e : cpu + 2 ≤ low = grind (arith, nat_tests, apart, h.0) in
      rw apart (from, tt, (omega arith, below), (e, h.1, h.2, h.3))
]

-- ascending CPUs have canonical items
pub items_from : (w b : ℕ) (cs : List ℕ) → Ascend w b cs → AreFrom w b (items_of cs)
items_from w b [] h = tt
items_from w b (c ∷ cs) h = put_from w b c (items_of cs) h.0 h.1 (items_from w (suc c) cs h.2)

-- a CPU with none next to it is an item of its own
put_apart : (w cpu : ℕ) (is : List Item) → AreFrom w (cpu + 2) is → put_before cpu is ≡ One cpu ∷ is
put_apart w cpu [] h = refl
put_apart w cpu (One low ∷ is) h = let apart : (low == cpu + 1) ≡ false = grind (arith, nat_tests, h.0) in rw apart refl
put_apart w cpu (Run low high ∷ is) h = let apart : (low == cpu + 1) ≡ false = grind (arith, nat_tests, h.0) in rw apart refl

ascend_push : (w b : ℕ) (cs : List ℕ) → Ascend w b cs → b ≤ w → Ascend (suc w) b (cs ++ w ∷ [])
ascend_push w b [] h from = (from, omega arith, tt)
ascend_push w b (c ∷ cs) h from = (h.0, omega (arith, h.1), ascend_push w (suc c) cs h.2 (omega (arith, h.1)))

ascend_wider : (w b : ℕ) (cs : List ℕ) → Ascend w b cs → Ascend (suc w) b cs
ascend_wider w b [] h = tt
ascend_wider w b (c ∷ cs) h = (h.0, omega (arith, h.1), ascend_wider w (suc c) cs h.2)

append_none : (w b : ℕ) (cs : List ℕ) → Ascend w b cs → Ascend w b (cs ++ [])
append_none w b cs h = subst (λ z. Ascend w b z) (sym (append-nil cs)) h

-- the members ascend
pub members_ascend : (m w b : ℕ) → ((c : ℕ) → has m c ≡ true → b ≤ c) → Ascend w b (members_below m w)
unfolding members_below
members_ascend m zero b from = tt
members_ascend m (suc w) b from = elim (cases_Bool (has m w)) [
  | inl member ↦ rw member (ascend_push w b (members_below m w) (members_ascend m w b from) (from w member))
  | inr other ↦ rw other (append_none (suc w) b (members_below m w) (ascend_wider w b (members_below m w) (members_ascend m w b from)))
]

-- a CPU before an item that begins next to it
put_next : (cpu high : ℕ) (is : List Item) → suc cpu ≤ high → put_before cpu (item_between (suc cpu) high ∷ is) ≡ item_between cpu high ∷ is
put_next cpu high is up =
    let next : (suc cpu == cpu + 1) ≡ true = grind (arith, nat_tests) in
    let longer : (cpu == high) ≡ false = grind (arith, nat_tests) in
    elim (cases_Bool (suc cpu == high)) [
      | inl last ↦
          let e : suc cpu ≡ high = grind (arith, nat_tests, last) in
          rw (last, longer) (rw next (ap (λ z. Run cpu z ∷ is) e))
      | inr more ↦ rw (more, longer) (rw next refl)
    ]

after_gap : (low m n c : ℕ) → has m (low + 0 + 1) ≡ false → has n c ≡ (nat_lt (low + 0) c && has m c) → has n c ≡ true → low + 2 ≤ c
after_gap low m n c gap above member =
    let more : (nat_lt (low + 0) c && has m c) ≡ true = sym above ∙ member in
    elim (cases_eq c (low + 0 + 1)) [
      | inl next ↦ absurd (both_ways (has m c) (ap (λ z. has m z) next ∙ gap) (grind (arith, more)))
      | inr other ↦ grind (arith, nat_tests, more, other)
    ]

-- a run off the front: the members from the least one on, as far as they go, are the first item
pub run_off : (w d low m n : ℕ) → IsLeast (λ c. has m c) low → ((c : ℕ) → low ≤ c → c ≤ low + d → has m c ≡ true) → has m (low + d + 1) ≡ false
    → ((c : ℕ) → has n c ≡ (nat_lt (low + d) c && has m c)) → low + d < w
    → items_of (members_below m w) ≡ item_between low (low + d) ∷ items_of (members_below n w)
run_off w zero low m n least all last above within =
    let off : members_below m w ≡ low ∷ members_below n w = least_off m n low w least (λ c. grind (arith, nat_tests, above c, least.least c)) (omega arith) in
    let apart : (c : ℕ) → has n c ≡ true → low + 2 ≤ c = λ c member. after_gap low m n c last (above c) member in
    let same : (low == low + 0) ≡ true = grind (arith, nat_tests) in
    rw (off, same) (put_apart w low (items_of (members_below n w)) (items_from w (low + 2) (members_below n w) (members_ascend n w (low + 2) apart)))
run_off w (suc d) low m n least all last above within =
    let m' = above_of m low in
    let off : members_below m w ≡ low ∷ members_below m' w =
    least_off m m' low w least (λ c. grind (arith, nat_tests, has_above_of m low c, least.least c)) (omega arith) in
    let from : suc low + d ≡ low + suc d = omega arith in
    let rest = run_off w d (suc low) m' n
    (record {
      passing = grind (arith, nat_tests, has_above_of m low (suc low), all (suc low) (omega arith) (omega arith));
      least = λ c h. grind (arith, nat_tests, has_above_of m low c, h);
    })
    (λ c low' high'. grind (arith, nat_tests, has_above_of m low c, all c (omega arith) (omega arith)))
    (grind (arith, nat_tests, has_above_of m low (suc low + d + 1), ap (λ z. has m (z + 1)) from, last))
    (λ c. grind (arith, nat_tests, from, above c, has_above_of m low c))
    (omega arith) in
    rw (off, rest, from) (put_next low (low + suc d) (items_of (members_below n w)) (omega arith))

pub first_run : (w low high m n : ℕ) → low ≤ high → IsLeast (λ c. has m c) low → ((c : ℕ) → low ≤ c → c ≤ high → has m c ≡ true) → has m (high + 1) ≡ false
    → ((c : ℕ) → has n c ≡ (nat_lt high c && has m c)) → high < w → items_of (members_below m w) ≡ item_between low high ∷ items_of (members_below n w)
first_run w low high m n up least all last above within =
    let e : low + (high - low) ≡ high = omega arith in
    subst (λ z. items_of (members_below m w) ≡ item_between low z ∷ items_of (members_below n w)) e
    (run_off w (high - low) low m n least (λ c from to. all c from (omega arith)) (rw e last) (λ c. rw e (above c)) (omega arith))

-- ---- what is printed

joined_tail : (i : Item) (is : List Item) → joined (i ∷ is) ≡ item_text i ++ flat_map (λ j. 44 ∷ item_text j) is
joined_tail i [] = sym (append-nil (item_text i))
joined_tail i (j ∷ is) = ap (λ z. item_text i ++ (44 ∷ z)) (joined_tail j is)

-- the first item, and then each with its comma
pub written : (items is ys : List Item) (i : Item) → items ≡ i ∷ is → ys ≡ is → item_text i ++ flat_map (λ j. 44 ∷ item_text j) ys ≡ joined items
written items is ys i first rest = rw (first, rest) (sym (joined_tail i is))
