-- The list of a set's members, over the width k.
use Rattle.std.proofs.Common.{◌≡◌, ℕ, length-append, get_or, subst, ◌<◌, ◌≤◌, true, false, not, ◌&&◌, ◌==◌, List, [], ◌∷◌, ◌++◌, length, zero, suc, refl, sym}
use Rattle.std.proofs.Common.{ap, inl, inr, Option, Some, arith}
use Rattle.std.proofs.lemmas.Bool.{cases_lt, cases_Bool}
use Rattle.std.proofs.lemmas.Bool.Decides.{nat_tests}
use Rattle.std.proofs.lemmas.List.{get_or_append_left, get_or_at}
use Rattle.std.proofs.lemmas.Iterator.Consumers.{YieldsList-from_shown, YieldsList-turn}
use Rattle.std.proofs.lemmas.Iterator.{YieldsList}
use Rattle.std.specs.Iterator.{MakesProgress, item_count, Yields}
use Rattle.smp_mask.specs.Mask.{has, members_below, members, IsLeast, TakesLeast}
use Rattle.smp_mask.specs.declared.mask.TheConstants.{NR_CPUS}

pub none_below : (n k : ℕ) → ((c : ℕ) → c < k → has n c ≡ false) → members_below n k ≡ []
unfolding members_below
none_below n zero h = refl
none_below n (suc k) h = rw (none_below n k (λ c l. h c (omega arith)), h k (omega arith)) refl

-- a set without its least member has the others
pub least_off : (m n cpu k : ℕ) → IsLeast (λ c. has m c) cpu → ((c : ℕ) → has n c ≡ (has m c && not (c == cpu))) → cpu < k
    → members_below m k ≡ cpu ∷ members_below n k
unfolding members_below
least_off m n cpu zero least off h = absurd (omega arith)
least_off m n cpu (suc k) least off h = elim (cases_lt cpu k) [
  | inl below ↦
      let same : has n k ≡ has m k = grind (arith, nat_tests, off k) in
      rw (least_off m n cpu k least off below, same) refl
  | inr at ↦
      let here : cpu ≡ k = omega arith in
      let before : members_below m k ≡ [] = none_below m k (λ c l. grind (arith, nat_tests, least.least c)) in
      let after : members_below n k ≡ [] = none_below n k (λ c l. grind (arith, nat_tests, least.least c, off c)) in
      let member : has m k ≡ true = grind (arith, nat_tests, least.passing) in
      let gone : has n k ≡ false = grind (arith, nat_tests, off k) in
      rw (before, after, member, gone, here) refl
]

-- an item off the front of a list brings the end nearer
pub item_goes : {S A : Type 0} (rest : S → List A) (can : S → Type 0) (s t : S) (x : A) → can t → rest s ≡ x ∷ rest t
    → MakesProgress can (item_count rest) s (Some x) t
item_goes rest can s t x c e = let shorter = ap length e in record { on = λ f. (c, tt, omega arith); keeps = c; rests = λ f. tt }

pub members_fit : (n k : ℕ) → length (members_below n k) ≤ k
unfolding members_below
members_fit n zero = omega arith
members_fit n (suc k) = elim (cases_Bool (has n k)) [
  | inl member ↦ rw member (omega (arith, members_fit n k, length-append (members_below n k) (k ∷ [])))
  | inr other ↦ rw other (omega (arith, members_fit n k, length-append (members_below n k) []))
]

-- each item of the list is a member, below the width
pub item_member : (n k i : ℕ) (d : ℕ) → i < length (members_below n k) → (get_or (members_below n k) i d < k) × (has n (get_or (members_below n k) i d) ≡ true)
unfolding members_below
item_member n zero i d h = absurd (omega arith)
item_member n (suc k) i d h = elim (cases_Bool (has n k)) [
  | inl member ↦
      let long = length-append (members_below n k) (k ∷ []) in
      elim (cases_lt i (length (members_below n k))) [
        | inl before ↦
            let rest = item_member n k i d before in
            rw (member, get_or_append_left (members_below n k) (k ∷ []) d i before) (omega (arith, rest.0), rest.1)
        | inr at ↦
            let last : get_or (members_below n k ++ k ∷ []) i d ≡ k = get_or_at (members_below n k) k [] d i (grind (arith, member, long, h)) in
            rw (member, last) (omega arith, member)
      ]
  | inr other ↦
      let long = length-append (members_below n k) [] in
      let before : i < length (members_below n k) = grind (arith, other, long, h) in
      let rest = item_member n k i d before in
      rw (other, get_or_append_left (members_below n k) [] d i before) (omega (arith, rest.0), rest.1)
]

-- a loop over a mask comes by its members, in order
pub road : (m : ℕ) → YieldsList TakesLeast (λ cpu. cpu) m (members m)
road m = YieldsList-from_shown TakesLeast (λ cpu. cpu) members (λ s t h. ap length h.0.0) (λ s x t h. h.0) m
