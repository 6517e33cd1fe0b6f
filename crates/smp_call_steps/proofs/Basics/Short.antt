-- Calls whose records are apart are no more than there are records.
use Rattle.std.proofs.Common.{◌≡◌, ℕ, ◌<◌, ◌≤◌, true, false, List, [], ◌∷◌, length, eqb, sym, subst, refl, inl, inr, arith}
use Rattle.std.proofs.lemmas.Bool.{ne_eqb, eqb-true, or_cases}
use Rattle.std.proofs.lemmas.Map.Steps.{length-le_from_distinct_below}
use Rattle.std.proofs.lemmas.Map.Keys.{IsDistinct-cons}
use Rattle.std.specs.List.{AllByRecursion, IsDistinct, list_any}
use Rattle.smp_call_steps.specs.{IsAbsent, IsApart, ids, Call}

absent_ids : (id : ℕ) (calls : List Call) → IsAbsent id calls → AllByRecursion (λ y. eqb id y ≡ false) (ids calls)
absent_ids id [] h = tt
absent_ids id (call ∷ rest) h = (ne_eqb id call.id (λ e. h.0 (sym e)), absent_ids id rest h.1)

no_ids : IsDistinct eqb []
unfolding IsDistinct
no_ids = tt

distinct_ids : (calls : List Call) → IsApart calls → IsDistinct eqb (ids calls)
distinct_ids [] h = no_ids
distinct_ids (call ∷ rest) h = IsDistinct-cons eqb call.id (ids rest) (absent_ids call.id rest h.0) (distinct_ids rest h.1)

below : (n : ℕ) (calls : List Call) → AllByRecursion (λ call. call.id < n) calls → (q : ℕ) → list_any (eqb q) (ids calls) ≡ true → q < n
below n [] h q e = cc
below n (call ∷ rest) h q e = elim (or_cases (eqb q call.id) (list_any (eqb q) (ids rest)) e)
    [ inl f ↦ (let s = eqb-true q call.id f in let l = h.0 in omega arith) | inr f ↦ below n rest h.1 q f ]

length-ids : (calls : List Call) → length (ids calls) ≡ length calls
length-ids [] = refl
length-ids (call ∷ rest) = let e = length-ids rest in omega arith

pub length-apart : (n : ℕ) (calls : List Call) → IsApart calls → AllByRecursion (λ call. call.id < n) calls → length calls ≤ n
length-apart n calls apart small =
    subst (λ (k : ℕ). k ≤ n) (length-ids calls) (length-le_from_distinct_below (ids calls) n (distinct_ids calls apart) (below n calls small))
