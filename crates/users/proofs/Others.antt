-- The other CPUs that are online.
use Rattle.std.proofs.Common.{◌≡◌, ℕ, Bool, true, false, not, ◌&&◌, ◌||◌, ◌==◌, Result, Ok, Err, IfOk, refl, ◌∙◌}
use Rattle.smp_mask.specs.Mask.{has}
use Rattle.smp_mask.specs.declared.error.SmpError.{SmpError}
use Rattle.smp_calls.specs.Targets.{is_target}

same_others : (there other x y : Bool) → (((there && there) && other) || ((false && x) && y)) ≡ (there && other)
same_others true true x y = refl
same_others true false x y = refl
same_others false other x y = refl

-- the targets of a call to all are these
pub others_are : (online this : ℕ) (result : Result ℕ SmpError) → IfOk result (λ called. (c : ℕ) → has called c ≡ is_target online online this false c)
    → IfOk result (λ called. (c : ℕ) → has called c ≡ (has online c && not (c == this)))
others_are online this (Ok called) targets = λ c. targets c ∙ same_others (has online c) (not (c == this)) (has online c) (c == this)
others_are online this (Err e) targets = tt

-- what holds with wait holds
pub all_ended : (P : ℕ → Type 0) (result : Result ℕ SmpError) → IfOk result (λ called. true ≡ true → P called) → IfOk result (λ called. P called)
all_ended P (Ok called) ended = ended refl
all_ended P (Err e) ended = tt
