-- CPU lists by how wide they are: a list of CPUs below a limit is a wider list whose mask stays below it.
use Rattle.smp_script.proofs.Names.{◌≡◌, ℕ, zero, suc, ◌<◌, ◌≤◌, Bool, true, false, ◌&&◌, nat_lt, List, [], ◌∷◌, ◌++◌, length, get_or, Ok, refl, sym, ap, ◌∙◌}
use Rattle.smp_script.proofs.Names.{inl, inr, arith, subst, list_all, cases_Bool, cases_lt, and_parts, or_cases, or_right, nat_tests, AreItems, IsListOf}
use Rattle.smp_script.proofs.Names.{IsMaskOf, highest, is_within, names, has, members_below, mask_of_text, NR_CPUS, item_member, same_members, accepted}
use Rattle.smp_script.proofs.Names.{stays_below}
use Rattle.smp_mask.proofs.Accepts.{reads_list, with_items}

-- all members are CPUs
abbrev pub AreCpus : ℕ → Type 0
AreCpus m = (cpu : ℕ) → has m cpu ≡ true → cpu < NR_CPUS

-- a list names only CPUs below the width
names_below : (w : ℕ) (items : _) → AreItems w items → (cpu : ℕ) → names items cpu ≡ true → cpu < w
names_below w [] h cpu e = cc
names_below w (i ∷ is) h cpu e = elim (or_cases (is_within cpu i) (names is cpu) e) [
  | inl here ↦ grind (arith, nat_tests, h.0, and_parts, here)
  | inr more ↦ names_below w is h.1 cpu more
]

pub mask_below : (w : ℕ) (text : List ℕ) (m : ℕ) → IsMaskOf w text m → (cpu : ℕ) → has m cpu ≡ true → cpu < w
mask_below w text m h cpu e = names_below w h.items h.is_list.items_are cpu (sym (h.members h.items h.is_list cpu) ∙ e)

pub one_mask : (w : ℕ) (text : List ℕ) (m n : ℕ) → IsMaskOf w text m → IsMaskOf w text n → m ≡ n
one_mask w text m n a b = same_members m n (λ c. a.members b.items b.is_list c ∙ sym (b.members b.items b.is_list c))

-- an element that fails a test that not all pass
pub some_fails : (p : ℕ → Bool) (xs : List ℕ) → list_all p xs ≡ false → (i : ℕ) × (i < length xs) × (p (get_or xs i 0) ≡ false)
some_fails p [] h = cc
some_fails p (x ∷ xs) h = elim (cases_Bool (p x)) [
  | inr fails ↦ (0, omega arith, fails)
  | inl passes_ ↦ let more = some_fails p xs (rw passes_ at h) in (suc more.0, omega (arith, more.1), more.2)
]

all-append : {X : Type 0} (p : X → Bool) (xs ys : List X) → list_all p (xs ++ ys) ≡ (list_all p xs && list_all p ys)
all-append p [] ys = refl
all-append p (x ∷ xs) ys = grind (arith, all-append p xs ys)

off : (b : Bool) → (b && (false && true)) ≡ false
off true = refl
off false = refl

-- a member from nr on is not below it
pub one_above : (nr mask k cpu : ℕ) → cpu < k → has mask cpu ≡ true → nr ≤ cpu → list_all (λ c. nat_lt c nr) (members_below mask k) ≡ false
unfolding members_below
one_above nr mask zero cpu h member above = absurd (omega arith)
one_above nr mask (suc k) cpu h member above = elim (cases_lt cpu k) [
  | inl before ↦
      grind (arith, cases_Bool, all-append, one_above nr mask k cpu before member above)
  | inr at ↦
      let same : cpu ≡ k = omega arith in
      let here : has mask k ≡ true = rw (← same) member in
      grind (arith, nat_tests, here, all-append, off)
]

-- a mask stays below a limit exactly where all its members do
pub member_below : (limit m : ℕ) → AreCpus m → stays_below limit m ≡ true → (cpu : ℕ) → has m cpu ≡ true → cpu < limit
member_below limit m cpus h cpu on = search (cases_lt, one_above, arith)

pub all_stay : (limit m : ℕ) → ((cpu : ℕ) → has m cpu ≡ true → cpu < limit) → stays_below limit m ≡ true
all_stay limit m below = search (cases_Bool, some_fails, item_member, nat_tests, arith)

items_wider : (limit : ℕ) (items : _) → limit ≤ NR_CPUS → AreItems limit items → AreItems NR_CPUS items
items_wider limit [] few h = tt
items_wider limit (i ∷ is) few h = ((h.0.0, omega (arith, h.0.1, few)), items_wider limit is few h.1)

items_narrower : (limit : ℕ) (items : _) → AreItems NR_CPUS items → ((cpu : ℕ) → names items cpu ≡ true → cpu < limit) → AreItems limit items
items_narrower limit [] h below = tt
items_narrower limit (i ∷ is) h below = (
  (h.0.0, below (highest i) (search (nat_tests, h.0.0, arith))),
  items_narrower limit is h.1 (λ cpu e. below cpu (or_right (is_within cpu i) (names is cpu) e)),
)

-- a list of CPUs below the limit is a wider one, of the same mask
pub wider : (limit : ℕ) (text : List ℕ) (m : ℕ) → limit ≤ NR_CPUS → IsMaskOf limit text m → IsMaskOf NR_CPUS text m
wider limit text m few h =
    let is_list : IsListOf NR_CPUS text h.items = record { items_are = items_wider limit h.items few h.is_list.items_are; text_is = h.is_list.text_is } in
    let read : mask_of_text NR_CPUS text ≡ Ok (with_items 0 h.items) = ap (mask_of_text NR_CPUS) h.is_list.text_is
    ∙ reads_list NR_CPUS (omega arith) h.items is_list.items_are in
    let all = accepted NR_CPUS (omega arith) text (with_items 0 h.items) read in
    let same = same_members (with_items 0 h.items) m (λ c. all.members h.items is_list c ∙ sym (h.members h.items h.is_list c)) in
    subst (λ n. IsMaskOf NR_CPUS text n) same all

-- and a wider one whose mask stays below the limit is one
pub narrower : (limit : ℕ) (text : List ℕ) (m : ℕ) → limit ≤ NR_CPUS → stays_below limit m ≡ true → IsMaskOf NR_CPUS text m → IsMaskOf limit text m
narrower limit text m few within h =
    let below = member_below limit m (mask_below NR_CPUS text m h) within in
    let items_are = items_narrower limit h.items h.is_list.items_are (λ cpu e. below cpu (h.members h.items h.is_list cpu ∙ e)) in
    record {
      items = h.items;
      is_list = record { items_are = items_are; text_is = h.is_list.text_is };
      members = λ others l cpu. h.members others (record { items_are = items_wider limit others few l.items_are; text_is = l.text_is }) cpu;
    }

-- a wider list whose mask does not is none
pub too_wide : (limit : ℕ) (text : List ℕ) (m n : ℕ) → limit ≤ NR_CPUS → stays_below limit m ≡ false → IsMaskOf NR_CPUS text m → IsMaskOf limit text n → ⊥
too_wide limit text m n few far h is =
    let same = one_mask NR_CPUS text n m (wider limit text n few is) h in
    let all : stays_below limit m ≡ true = ap (stays_below limit) (sym same) ∙ all_stay limit n (mask_below limit text n is) in
    let bad : true ≡ false = sym all ∙ far in cc
