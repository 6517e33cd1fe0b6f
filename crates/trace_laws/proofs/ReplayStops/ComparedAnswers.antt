-- Answers, as they are compared and told.
use Rattle.trace_laws.proofs.Names.{arith, false, int_eq, pos, refl, true, ℕ, ℤ, ◌<◌, ◌^◌, ◌≡◌, ◌≢◌}
use Rattle.trace_laws.proofs.ReplayNames.{as_i32}
use Rattle.std.proofs.{lemmas.Bool.Decides.Decides-int_eq, lemmas.Int.of_z-to_z}

-- answers are compared
pub same_int : (x : ℤ) → int_eq x x ≡ true
same_int x = (Decides-int_eq x x).1 refl

pub differs : (x y : ℤ) → x ≢ y → int_eq x y ≡ false
differs x y h1 = search arith

-- an answer that is not 0 is told as one that is not
pub as_i32-zero : (n : ℕ) → n < 2 ^ 32 → as_i32 n ≡ pos 0 → n ≡ 0
as_i32-zero n h1 h2 = search (of_z-to_z, pos, arith)
