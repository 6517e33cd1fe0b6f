-- The CPUs that a condition has said yes of.
use Rattle.std.proofs.Common.{◌≡◌, ℕ, ◌<◌, Bool, true, false, ◌&&◌, inl, inr, refl}
use Rattle.std.proofs.lemmas.Bool.{cases_Bool}
use Rattle.smp_mask.specs.Mask.{has}
use Rattle.smp_words.specs.Size.{cpus}
use Rattle.smp_calls.specs.Rounds.{Picks}

none_picked : (asked says : ℕ → Bool) (called : ℕ) → Picks (λ c answer. answer ≡ says c) asked called → (c : ℕ) → asked c ≡ false → has called c ≡ false
none_picked asked says called picks c other = elim (cases_Bool (has called c)) [
  | inl member ↦ absurd {A = has called c ≡ false} (cc (picks.among c member, other))
  | inr e ↦ e
]

picked_if : (asked says : ℕ → Bool) (called : ℕ) → Picks (λ c answer. answer ≡ says c) asked called → (c : ℕ) → c < cpus → (b : Bool) → asked c ≡ b
    → has called c ≡ (b && says c)
picked_if asked says called picks c below true e = picks.answered c below e
picked_if asked says called picks c below false e = none_picked asked says called picks c e

pub picked : (asked says : ℕ → Bool) (called : ℕ) → Picks (λ c answer. answer ≡ says c) asked called → (c : ℕ) → c < cpus → has called c ≡ (asked c && says c)
picked asked says called picks c below = picked_if asked says called picks c below (asked c) refl
