-- The changes of a patch, one after another.
use Rattle.std.proofs.Common.{◌≡◌, ℕ, zero, suc, refl, List, [], ◌∷◌, get_or, ne_eqb, arith}
use Rattle.smp_stop_steps.specs.{Change, change_at, Place}

pub read_change : (xs : List Change) (i : ℕ) → get_or xs i (Place.Key 0, 0) ≡ change_at xs i
read_change [] i = refl
read_change (x ∷ xs) zero = refl
read_change (x ∷ xs) (suc i) = search (read_change xs i, ne_eqb, arith)
