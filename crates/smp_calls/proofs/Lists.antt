-- Lists of the members of a mask, and masks without one member.
use Rattle.std.proofs.Common.{◌≡◌, ℕ, zero, suc, ◌+◌, ◌<◌, ◌≤◌, Bool, true, false, not, ◌&&◌, ◌==◌, nat_lt, cond, List, [], ◌∷◌, ◌++◌, append_assoc, inl, inr}
use Rattle.std.proofs.Common.{refl, ap, ◌∙◌, arith}
use Rattle.std.specs.List.{filter}
use Rattle.std.proofs.lemmas.Bool.{cases_eq, cases_Bool, ne_eqb, eq-eqb, lt-ltb}
use Rattle.std.proofs.lemmas.Bool.Decides.{nat_tests}
use Rattle.std.proofs.lemmas.List.{append-nil}
use Rattle.std.proofs.lemmas.List.Elements.{filter-append}
use Rattle.smp_mask.specs.Mask.{has, members, members_below}
use Rattle.smp_mask.specs.declared.mask.TheConstants.{NR_CPUS}
use Rattle.smp_calls.specs.Rounds.{only_if}

-- a test as a number
abbrev pub one_if : Bool → ℕ
one_if b = cond b 1 0

-- how often a number is in a list
pub times : ℕ → List ℕ → ℕ
times c [] = 0
times c (x ∷ xs) = cond (x == c) 1 0 + times c xs

times-append : (c : ℕ) (xs ys : List ℕ) → times c (xs ++ ys) ≡ times c xs + times c ys
unfolding times
times-append c [] ys = omega arith
times-append c (x ∷ xs) ys = omega (arith, times-append c xs ys)

-- a member is once in the list of the members below k, where it is below k
times_member : (m c k : ℕ) → times c (members_below m k) ≡ cond (nat_lt c k && has m c) 1 0
unfolding times members_below
times_member m c zero = grind (arith, nat_tests)
times_member m c (suc k) = search (cases_Bool, cases_eq, eq-eqb, ne_eqb, times-append, times_member m c k, nat_tests, arith)

last : (member kept passes : Bool) (k : ℕ) (p : ℕ → Bool) → p k ≡ passes → kept ≡ (member && passes)
    → filter p (cond member (k ∷ []) []) ≡ cond kept (k ∷ []) []
last true kept passes k p e same = rw (e, same) refl
last false kept passes k p e same = rw same refl

-- a filter leaves the members that pass
pub filter_members : (m n : ℕ) (p : ℕ → Bool) (k : ℕ) → ((c : ℕ) → has n c ≡ (has m c && p c)) → filter p (members_below m k) ≡ members_below n k
unfolding members_below
filter_members m n p zero same = refl
filter_members m n p (suc k) same = search (filter-append, last, filter_members m n p k same, arith)

-- what is not in a list is not filtered out
filter_without : (c : ℕ) (xs : List ℕ) → times c xs ≡ 0 → filter (λ x. not (x == c)) xs ≡ xs
unfolding times
filter_without c [] none = refl
filter_without c (x ∷ xs) none = elim (cases_eq x c) [
  | inl e ↦ absurd (let h : one_if (x == c) ≡ 1 = ap one_if (eq-eqb x c e) in omega arith)
  | inr n ↦ rw (ne_eqb x c n) (ap (λ (ys : List ℕ). x ∷ ys) (filter_without c xs (grind (arith, none))))
]

-- the masks that agree have the same members
pub agreeing : (m n k : ℕ) → ((c : ℕ) → c < k → has m c ≡ has n c) → members_below m k ≡ members_below n k
unfolding members_below
agreeing m n zero same = refl
agreeing m n (suc k) same = rw (agreeing m n k (λ c l. same c (omega arith)), same k (omega arith)) refl

-- the next one of those that are left is gone from them, and the others stay
pub next_gone : (left next cpu c : ℕ) → members left ≡ cpu ∷ members next → c < NR_CPUS → has next c ≡ (has left c && not (c == cpu))
unfolding times
next_gone left next cpu c e below =
    let before : times c (members left) ≡ cond (has left c) 1 0 = times_member left c NR_CPUS ∙ ap (λ b. cond (b && has left c) 1 0) (lt-ltb c NR_CPUS below) in
    search (times, times_member, lt-ltb, nat_tests, before, arith)

-- none is left
pub none_left : (left c : ℕ) → members left ≡ [] → c < NR_CPUS → has left c ≡ false
unfolding times
none_left left c e below =
    let before : times c (members left) ≡ cond (has left c) 1 0 = times_member left c NR_CPUS ∙ ap (λ b. cond (b && has left c) 1 0) (lt-ltb c NR_CPUS below) in
    search (times, nat_tests, before, arith)

-- a mask without one member has the others in their order
without_one : (m n c : ℕ) (xs ys : List ℕ) → members m ≡ xs ++ c ∷ ys → ((x : ℕ) → has n x ≡ (has m x && not (x == c))) → members n ≡ xs ++ ys
unfolding times
without_one m n c xs ys e gone =
    let once : times c (members m) ≡ cond (nat_lt c NR_CPUS && has m c) 1 0 = times_member m c NR_CPUS in
    let few : times c (members m) ≤ 1 = grind (arith, nat_tests, once) in
    let here : one_if (c == c) ≡ 1 = ap one_if (eq-eqb c c refl) in
    let split : times c (members m) ≡ times c xs + (cond (c == c) 1 0 + times c ys) = ap (times c) e ∙ times-append c xs (c ∷ ys) in
    let before : times c xs ≡ 0 = omega arith in
    let after : times c ys ≡ 0 = omega arith in
    let passes = λ (x : ℕ). not (x == c) in
    search (
      filter_members m n passes NR_CPUS gone,
      ap (filter passes) e,
      filter-append passes xs (c ∷ ys),
      filter_without c xs before,
      filter_without c ys after,
      eq-eqb c c refl,
      arith,
    )

-- a mask's members are those done and those left; it stays so where the next one is done, and where it is taken out
pub goes_on : (keep : Bool) (xs : List ℕ) (left next cpu m n : ℕ) → xs ++ members left ≡ members m → members left ≡ cpu ∷ members next →
    (keep ≡ true → n ≡ m) → (keep ≡ false → (c : ℕ) → has n c ≡ (has m c && not (c == cpu))) →
    (xs ++ only_if keep cpu) ++ members next ≡ members n
goes_on true xs left next cpu m n e step kept out = search (append_assoc, arith)
goes_on false xs left next cpu m n e step kept out = search (append-nil, without_one, arith)
