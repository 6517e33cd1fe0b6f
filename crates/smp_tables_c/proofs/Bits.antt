-- A set by its bits.
use Rattle.std.proofs.Common.{◌≡◌, ℕ, ◌^◌, ◌<◌, ◌≤◌, ◌&&◌, nat_lt, ◌∙◌, arith}
use Rattle.std.proofs.lemmas.Bool.Decides.{nat_tests}
use Rattle.smp_mask.specs.Mask.{has}
use Rattle.smp_mask.proofs.Sets.{has_above, same_members}

-- no bit of a word is left out below n
cut : (bits n c : ℕ) → bits < 2 ^ 32 → 32 ≤ n → (nat_lt c n && has bits c) ≡ has bits c
cut bits n c fits far = grind (arith, nat_tests, has_above 32 bits c fits)

pub all_bits : (mask bits n : ℕ) → bits < 2 ^ 32 → 32 ≤ n → ((c : ℕ) → has mask c ≡ (nat_lt c n && has bits c)) → mask ≡ bits
all_bits mask bits n fits far are = same_members mask bits (λ c. are c ∙ cut bits n c fits far)
