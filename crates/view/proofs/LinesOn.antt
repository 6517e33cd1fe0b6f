-- The lines of a text from a place on.
use Rattle.std.proofs.Common.{◌≡◌, ℕ, suc, ◌+◌, ◌-◌, ◌≤◌, List, [], ◌∷◌, Some, None, refl, sym, ap, ◌∙◌, arith}
use Rattle.std.specs.List.{slice_get}

-- these are the elements from this place on
abbrev pub AreFrom : {X : Type 0} → List X → ℕ → List X → Type 0
AreFrom all at rest = (n : ℕ) → slice_get all (at + n) ≡ slice_get rest n

pub none_left : {X : Type 0} (xs : List X) (n : ℕ) → xs ≡ [] → slice_get xs n ≡ None
none_left [] n e = refl
none_left (x ∷ xs) n e = cc

-- past the end there is none
pub past_end : {X : Type 0} (all : List X) (at n : ℕ) (rest : List X) → AreFrom all at rest → rest ≡ [] → at ≤ n → slice_get all n ≡ None
past_end all at n rest are none le =
    let e : at + (n - at) ≡ n = omega arith in
    ap (slice_get all) (sym e) ∙ are (n - at) ∙ none_left rest (n - at) none

-- after one more
pub one_on : {X : Type 0} (all : List X) (at next : ℕ) (rest : List X) (x : X) (xs : List X) → AreFrom all at rest → rest ≡ x ∷ xs → at + 1 ≡ next
    → AreFrom all next xs
one_on all at next rest x xs are e step n =
    let s : next + n ≡ at + suc n = omega arith in
    ap (slice_get all) s ∙ are (suc n) ∙ ap (λ r. slice_get r (suc n)) e

-- the next one
pub first_left : {X : Type 0} (all : List X) (at n : ℕ) (rest : List X) (x : X) (xs : List X) → AreFrom all at rest → rest ≡ x ∷ xs → at ≡ n
    → slice_get all n ≡ Some x
first_left all at n rest x xs are e same =
    let s : n ≡ at + 0 = omega arith in
    ap (slice_get all) s ∙ are 0 ∙ ap (λ r. slice_get r 0) e
