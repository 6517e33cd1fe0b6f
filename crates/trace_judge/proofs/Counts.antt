-- Lists of arguments that are too long, or no pair.
use Rattle.std.proofs.Common.{◌≡◌, ◌≢◌, ◌<◌, List, [], ◌∷◌, map, length, Err, refl, arith, ℕ}
use Rattle.smp_mask.specs.declared.error.Cause.TheVariants.{Word}
use Rattle.trace_model.specs.declared.without.Setting.{Setting}
use Rattle.trace_judge.specs.Reading.{call_line, queue_line, short_of}

-- no event but `queue` and `open` has more than three
pub too_many : {X : Type 0} (f : X → List ℕ) (u : Setting) (name : List ℕ) (xs : List X) → 3 < length xs → Err Word ≡ short_of u name (map f xs)
too_many f u name [] h = absurd (omega arith)
too_many f u name (a ∷ []) h = absurd (omega arith)
too_many f u name (a ∷ b ∷ []) h = absurd (omega arith)
too_many f u name (a ∷ b ∷ c ∷ []) h = absurd (omega arith)
too_many f u name (a ∷ b ∷ c ∷ d ∷ xs) h = refl

-- behind `queue` a line that has not two arguments tells a call
pub no_pair : {X : Type 0} (f : X → List ℕ) (u : Setting) (xs : List X) → length xs ≢ 2 → call_line u (map f xs) ≡ queue_line u (map f xs)
no_pair f u [] h = refl
no_pair f u (a ∷ []) h = refl
no_pair f u (a ∷ b ∷ []) h = absurd (h refl)
no_pair f u (a ∷ b ∷ c ∷ xs) h = refl
