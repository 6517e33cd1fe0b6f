-- The CPUs of a mask that are chosen.
use Rattle.std.proofs.Common.{◌≡◌, ℕ, zero, suc, ◌&&◌, List, [], ◌∷◌, Some, None, refl, ap, inl, inr}
use Rattle.std.specs.List.{filter}
use Rattle.std.proofs.lemmas.Bool.{cases_Bool}
use Rattle.std.proofs.lemmas.List.Elements.{filter-append}
use Rattle.smp_mask.specs.Mask.{has, members, members_below}
use Rattle.view.specs.Choice.{has_cpu}

-- where all are chosen, each is
pub all_chosen : (cpus : List ℕ) → filter (has_cpu None) cpus ≡ cpus
all_chosen [] = refl
all_chosen (c ∷ cs) = ap (λ rest. c ∷ rest) (all_chosen cs)

-- the members of both masks are those of the first that the second has
pub both_below : (both mask chosen k : ℕ) → ((c : ℕ) → has both c ≡ (has mask c && has chosen c))
    → members_below both k ≡ filter (has_cpu (Some chosen)) (members_below mask k)
unfolding members_below
both_below both mask chosen zero h = refl
both_below both mask chosen (suc k) h =
    let rest = both_below both mask chosen k h in
    elim (cases_Bool (has mask k)) [
      | inl there ↦ elim (cases_Bool (has chosen k)) [
        | inl is ↦ rw (h k, there, is, filter-append (has_cpu (Some chosen)) (members_below mask k) (k ∷ []), is, rest) refl
        | inr is ↦ rw (h k, there, is, filter-append (has_cpu (Some chosen)) (members_below mask k) (k ∷ []), is, rest) refl
      ]
      | inr gone ↦ rw (h k, gone, filter-append (has_cpu (Some chosen)) (members_below mask k) [], rest) refl
    ]

pub both_members : (both mask chosen : ℕ) → ((c : ℕ) → has both c ≡ (has mask c && has chosen c))
    → members both ≡ filter (has_cpu (Some chosen)) (members mask)
both_members both mask chosen h = both_below both mask chosen _ h
