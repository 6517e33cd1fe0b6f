-- The mask of a word, bit by bit.
use Rattle.std.proofs.Common.{◌≡◌, ℕ, ◌+◌, ◌*◌, ◌/◌, ◌%◌, ◌^◌, ◌<◌, ◌&&◌, ◌||◌, ◌==◌, nat_lt, sym, ap, ◌∙◌, inl, inr, arith}
use Rattle.std.specs.Int.{bit_at}
use Rattle.std.proofs.lemmas.Bool.{cases_lt}
use Rattle.std.proofs.lemmas.Bool.Decides.{nat_tests}
use Rattle.std.proofs.lemmas.Nat.Bits.{bit_at_above, bit_at_cat_low}
use Rattle.smp_mask.specs.Mask.{has}
use Rattle.smp_mask.proofs.Sets.{same_members}

low_bit : (word c : ℕ) → c < 32 → bit_at (word % 2 ^ 32) c ≡ bit_at word c
low_bit word c within =
    let whole : word / 2 ^ 32 * 2 ^ 32 + word % 2 ^ 32 ≡ word = omega arith in
    sym (bit_at_cat_low (word / 2 ^ 32) 32 (word % 2 ^ 32) c within) ∙ ap (λ n. bit_at n c) whole

-- the CPUs below 32 of a word
has_low : (word c : ℕ) → has (word % 2 ^ 32) c ≡ (nat_lt c 32 && has word c)
has_low word c = elim (cases_lt c 32) [
  | inl within ↦ grind (arith, nat_tests, low_bit word c within)
  | inr above ↦
      let small : word % 2 ^ 32 < 2 ^ 32 = omega arith in
      grind (arith, nat_tests, bit_at_above (word % 2 ^ 32) 32 c small above)
]

pub same_mask : (word mask : ℕ) → ((c : ℕ) → has mask c ≡ (nat_lt c 32 && has word c)) → mask ≡ word % 2 ^ 32
same_mask word mask same = same_members mask (word % 2 ^ 32) (λ c. same c ∙ sym (has_low word c))
