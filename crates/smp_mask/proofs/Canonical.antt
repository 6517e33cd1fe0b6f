-- The canonical CPU list of a mask, and that it reads back.
use Rattle.std.proofs.Common.{◌≡◌, ℕ, zero, suc, ◌+◌, ◌^◌, ◌<◌, ◌≤◌, true, false, ◌&&◌, ◌||◌, ◌==◌, nat_lt, List, [], ◌∷◌, append-nil, refl, subst, sym, ap}
use Rattle.std.proofs.Common.{◌∙◌, Ok, inl, inr, arith}
use Rattle.std.proofs.lemmas.Bool.{cases_Bool, cases_eq, cases_lt, or_cases, both_ways}
use Rattle.std.proofs.lemmas.Bool.Decides.{nat_tests}
use Rattle.std.proofs.lemmas.List.Folds.{list_any-append}
use Rattle.std.specs.List.{list_any}
use Rattle.smp_mask.specs.Mask.{has, members_below}
use Rattle.smp_mask.specs.CpuList.{lowest, highest, AreItems, joined, names, is_within}
use Rattle.smp_mask.specs.ListText.{put_before, items_of, IsProper, AreApart, AreCanonical}
use Rattle.smp_mask.specs.Reading.{mask_of_text}
use Rattle.smp_mask.specs.declared.item.Item.{Item}
use Rattle.smp_mask.specs.declared.item.Item.TheVariants.{One, Run}
use Rattle.smp_mask.proofs.Accepts.{reads_list, with_items, has_items}
use Rattle.smp_mask.proofs.Runs.{Ascend, AreFrom, items_from, members_ascend}
use Rattle.smp_mask.proofs.Sets.{has_none, has_above, same_members}

are_items : (w b : ℕ) (is : List Item) → AreFrom w b is → AreItems w is
are_items w b [] h = tt
are_items w b (i ∷ is) h = (h.2, are_items w (highest i + 2) is h.3)

are_apart : (w b : ℕ) (is : List Item) → AreFrom w b is → AreApart is
are_apart w b [] h = tt
are_apart w b (i ∷ []) h = h.1
are_apart w b (i ∷ j ∷ is) h = (h.1, omega (arith, h.3.0), are_apart w (highest i + 2) (j ∷ is) h.3)

-- a CPU before the items names itself and what they name
names_put : (w b cpu : ℕ) (is : List Item) → AreFrom w b is → (c : ℕ) → names (put_before cpu is) c ≡ (c == cpu || names is c)
names_put w b cpu [] h c = grind (arith, nat_tests)
names_put w b cpu (One low ∷ is) h c = elim (cases_Bool (low == cpu + 1)) [
  | inl next ↦
      let e : low ≡ cpu + 1 = grind (arith, nat_tests, next) in
      rw next (grind (arith, nat_tests, e))
  | inr apart ↦ rw apart (grind (arith, nat_tests))
]
names_put w b cpu (Run low high ∷ is) h c = elim (cases_Bool (low == cpu + 1)) [
  | inl next ↦
      let e : low ≡ cpu + 1 = grind (arith, nat_tests, next) in
      let up : low < high = h.1 in
      rw next (grind (arith, nat_tests, e, up))
  | inr apart ↦ rw apart (grind (arith, nat_tests))
]

names_items : (w b : ℕ) (cs : List ℕ) → Ascend w b cs → (c : ℕ) → names (items_of cs) c ≡ list_any (λ x. c == x) cs
names_items w b [] h c = refl
names_items w b (x ∷ cs) h c = names_put w (suc x) x (items_of cs) (items_from w (suc x) cs h.2) c ∙ ap (λ z. c == x || z) (names_items w (suc x) cs h.2 c)

member_too : (m w c : ℕ) → has m w ≡ true → ((has m c && nat_lt c w) || (c == w || false)) ≡ (has m c && nat_lt c (suc w))
member_too m w c h = elim (cases_eq c w) [
  | inl e ↦ let s : has m c ≡ true = ap (λ z. has m z) e ∙ h in grind (arith, nat_tests, s, e)
  | inr other ↦ grind (arith, nat_tests, other)
]

other_too : (m w c : ℕ) → has m w ≡ false → (has m c && nat_lt c w) ≡ (has m c && nat_lt c (suc w))
other_too m w c h = elim (cases_eq c w) [
  | inl e ↦ let s : has m c ≡ false = ap (λ z. has m z) e ∙ h in grind (arith, nat_tests, s, e)
  | inr other ↦ grind (arith, nat_tests, other)
]

any_members : (m w c : ℕ) → list_any (λ x. c == x) (members_below m w) ≡ (has m c && nat_lt c w)
unfolding members_below
any_members m zero c = grind (arith, nat_tests)
any_members m (suc w) c = elim (cases_Bool (has m w)) [
  | inl member ↦
      rw member (list_any-append (λ x. c == x) (members_below m w) (w ∷ []) ∙ (ap (λ z. z || (c == w || false)) (any_members m w c) ∙ member_too m w c member))
  | inr other ↦ rw (other, append-nil (members_below m w)) (any_members m w c ∙ other_too m w c other)
]

pub canonical : (w m : ℕ) → m < 2 ^ w → AreCanonical w m (items_of (members_below m w))
canonical w m fits =
    let ascend = members_ascend m w 0 (λ c h. omega arith) in
    let from = items_from w 0 (members_below m w) ascend in
    record {
      items_are = are_items w 0 (items_of (members_below m w)) from;
      apart = are_apart w 0 (items_of (members_below m w)) from;
      members = λ c. sym (names_items w 0 (members_below m w) ascend c ∙ (any_members m w c ∙ grind (arith, nat_tests, has_above w m c fits)));
    }

pub reads_back : (w : ℕ) → w < 2 ^ 64 → (m : ℕ) → m < 2 ^ w → mask_of_text w (joined (items_of (members_below m w))) ≡ Ok m
reads_back w wide m fits =
    let list = canonical w m fits in
    let items = items_of (members_below m w) in
    let same : with_items 0 items ≡ m =
    same_members (with_items 0 items) m (λ c. has_items w items list.items_are 0 c ∙ (ap (λ z. z || names items c) (has_none c) ∙ sym (list.members c))) in
    reads_list w wide items list.items_are ∙ ap (λ z. Ok z) same

-- ---- no other list of a mask is canonical

names_from : (w b : ℕ) (is : List Item) (c : ℕ) → AreFrom w b is → names is c ≡ true → b ≤ c
names_from w b [] c h named = absurd (both_ways false refl named)
names_from w b (i ∷ is) c h named = elim (or_cases (is_within c i) (names is c) named) [
  | inl here ↦ grind (arith, nat_tests, here, h.0)
  | inr later ↦ omega (arith, names_from w (highest i + 2) is c h.3 later, h.0, h.2.0)
]

unnamed : (w b : ℕ) (is : List Item) (c : ℕ) → AreFrom w b is → c < b → names is c ≡ false
unnamed w b is c h below = elim (cases_Bool (names is c)) [
  | inl named ↦ absurd (omega (arith, names_from w b is c h named))
  | inr other ↦ other
]

names_first : (i : Item) (is : List Item) (c : ℕ) → lowest i ≤ c → c ≤ highest i → names (i ∷ is) c ≡ true
names_first i is c from to = grind (arith, nat_tests)

names_rest : (i : Item) (is : List Item) (c : ℕ) → highest i < c → names (i ∷ is) c ≡ names is c
names_rest i is c past = let off : is_within c i ≡ false = grind (arith, nat_tests) in rw off refl

same_item : (i j : Item) → lowest i ≡ lowest j → highest i ≡ highest j → IsProper i → IsProper j → i ≡ j
same_item (One c) (One d) low high p q = ap One low
same_item (One c) (Run l h) low high p q = absurd (omega (arith, low, high, q))
same_item (Run l h) (One c) low high p q = absurd (omega (arith, low, high, p))
same_item (Run l h) (Run k g) low high p q = ap (λ z. Run z h) low ∙ ap (λ z. Run k z) high

-- the first CPU of one list is not before the other's, and its first item does not end before the other's
not_before : (w b : ℕ) (i j : Item) (is js : List Item) → AreFrom w b (i ∷ is) → AreFrom w b (j ∷ js) → ((c : ℕ) → names (i ∷ is) c ≡ names (j ∷ js) c)
    → lowest j ≤ lowest i
not_before w b i j is js g h same = names_from w (lowest j) (j ∷ js) (lowest i) (omega arith, h.1, h.2, h.3)
    (sym (same (lowest i)) ∙ names_first i is (lowest i) (omega arith) (g.2.0))

not_shorter : (w b : ℕ) (i j : Item) (is js : List Item) → AreFrom w b (i ∷ is) → AreFrom w b (j ∷ js) → ((c : ℕ) → names (i ∷ is) c ≡ names (j ∷ js) c)
    → lowest i ≡ lowest j → highest j ≤ highest i
not_shorter w b i j is js g h same low = elim (cases_lt (highest i) (highest j)) [
  | inl shorter ↦
      let in_j : names (j ∷ js) (highest i + 1) ≡ true = names_first j js (highest i + 1) (omega (arith, low, g.2.0)) (omega arith) in
      let in_is : names is (highest i + 1) ≡ true = sym (names_rest i is (highest i + 1) (omega arith)) ∙ (same (highest i + 1) ∙ in_j) in
      absurd (omega (arith, names_from w (highest i + 2) is (highest i + 1) g.3 in_is))
  | inr longer ↦ longer
]

same_rest : (w : ℕ) (i j : Item) (is js : List Item) → AreFrom w (highest i + 2) is → AreFrom w (highest i + 2) js → highest i ≡ highest j
    → ((c : ℕ) → names (i ∷ is) c ≡ names (j ∷ js) c) → (c : ℕ) → names is c ≡ names js c
same_rest w i j is js g h high same c = elim (cases_lt (highest i) c) [
  | inl past ↦ sym (names_rest i is c past) ∙ (same c ∙ names_rest j js c (omega (arith, high)))
  | inr early ↦ unnamed w (highest i + 2) is c g (omega arith) ∙ sym (unnamed w (highest i + 2) js c h (omega arith))
]

same_lists : (w b : ℕ) (is js : List Item) → AreFrom w b is → AreFrom w b js → ((c : ℕ) → names is c ≡ names js c) → is ≡ js
same_lists w b [] [] g h same = refl
same_lists w b [] (j ∷ js) g h same = absurd (both_ways (names (j ∷ js) (lowest j)) (sym (same (lowest j))) (names_first j js (lowest j) (omega arith) h.2.0))
same_lists w b (i ∷ is) [] g h same = absurd (both_ways (names (i ∷ is) (lowest i)) (same (lowest i)) (names_first i is (lowest i) (omega arith) g.2.0))
same_lists w b (i ∷ is) (j ∷ js) g h same =
    let back : (c : ℕ) → names (j ∷ js) c ≡ names (i ∷ is) c = λ c. sym (same c) in
    let low : lowest i ≡ lowest j = omega (arith, not_before w b i j is js g h same, not_before w b j i js is h g back) in
    let high : highest i ≡ highest j = omega (arith, not_shorter w b i j is js g h same low, not_shorter w b j i js is h g back (sym low)) in
    let rest : AreFrom w (highest i + 2) js = subst (λ z. AreFrom w (z + 2) js) (sym high) h.3 in
    let tails : is ≡ js = same_lists w (highest i + 2) is js g.3 rest (same_rest w i j is js g.3 rest high same) in
    ap (λ z. z ∷ is) (same_item i j low high g.1 h.1) ∙ ap (λ z. j ∷ z) tails

starts_from : (w b : ℕ) (i : Item) (is : List Item) → AreItems w (i ∷ is) → AreApart (i ∷ is) → b ≤ lowest i → AreFrom w b (i ∷ is)
starts_from w b i [] items apart from = (from, apart, items.0, tt)
starts_from w b i (j ∷ is) items apart from = (from, apart.0, items.0, starts_from w (highest i + 2) j is items.1 apart.2 (omega (arith, apart.1)))

canonical_from : (w : ℕ) (is : List Item) → AreItems w is → AreApart is → AreFrom w 0 is
canonical_from w [] items apart = tt
canonical_from w (i ∷ is) items apart = starts_from w 0 i is items apart (omega arith)

pub only_canonical : (w m : ℕ) → m < 2 ^ w → (others : List Item) → AreCanonical w m others → others ≡ items_of (members_below m w)
only_canonical w m fits others h =
    let ours = canonical w m fits in
    same_lists w 0 others (items_of (members_below m w)) (canonical_from w others h.items_are h.apart)
    (canonical_from w (items_of (members_below m w)) ours.items_are ours.apart) (λ c. sym (h.members c) ∙ ours.members c)
