-- A list of zeros.
use Rattle.std.proofs.Common.{◌≡◌, ℕ, zero, suc, Option, Some, None, get_or, refl, replicate}
use Rattle.smp_words.specs.Layout.{number_at}

pub get_or-same : {A : Type 0} (x : A) (n i : ℕ) → get_or (replicate n x) i x ≡ x
get_or-same {A} x zero i = refl
get_or-same {A} x (suc n) zero = refl
get_or-same {A} x (suc n) (suc i) = get_or-same x n i

pub zero_at : (n : ℕ) (i : Option ℕ) → number_at (replicate n 0) i ≡ 0
zero_at n None = refl
zero_at n (Some i) = get_or-same 0 n i
