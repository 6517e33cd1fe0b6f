-- A roll without one of its CPUs.
use Rattle.std.proofs.Common.{◌≡◌, ◌≢◌, ℕ, ◌<◌, ◌≤◌, false, ◌==◌, ap, inl, inr, arith, bit_and}
use Rattle.std.proofs.lemmas.Nat.Bits.{bit_at-lt, bit_at_and, bit_at_clear_same, bit_at_clear_other, same_from_bits}
use Rattle.std.proofs.{lemmas.Bool.cases_lt, lemmas.Bool.Decides.nat_tests}
use Rattle.std.specs.Int.{bit_at, w64}
use Rattle.smp_stop_steps.specs.{has, all_but}

pub clear_same : (n k : ℕ) → k < 64 → has (bit_and n (all_but k)) k ≡ false
clear_same n k low = grind (arith, nat_tests, bit_at_clear_same w64 n k low)

clear_bit : (n k c : ℕ) → k < 64 → c ≢ k → (64 ≤ c → has n c ≡ false) → bit_at (bit_and n (all_but k)) c ≡ bit_at n c
clear_bit n k c low other high = elim (cases_lt c 64) [
  | inl within ↦ bit_at_clear_other w64 n k low c within other
  | inr past ↦ grind (arith, nat_tests, high past, bit_at-lt n c, bit_at_and n (all_but k) c)
]

pub clear_other : (n k c : ℕ) → k < 64 → c ≢ k → (64 ≤ c → has n c ≡ false) → has (bit_and n (all_but k)) c ≡ has n c
clear_other n k c low other high = ap (λ b. b == 1) (clear_bit n k c low other high)

bit_zero : (n k : ℕ) → has n k ≡ false → bit_at n k ≡ 0
bit_zero n k e = grind (arith, nat_tests, bit_at-lt n k)

-- where the CPU is not in it, nothing changes
pub clear_none : (n k : ℕ) → k < 64 → has n k ≡ false → ((c : ℕ) → 64 ≤ c → has n c ≡ false) → bit_and n (all_but k) ≡ n
clear_none n k low missing high = same_from_bits (bit_and n (all_but k)) n (λ c. bit c)
  where
    bit : (c : ℕ) → bit_at (bit_and n (all_but k)) c ≡ bit_at n c
    bit c = search (bit_and, bit_zero, clear_same, clear_bit, arith)
