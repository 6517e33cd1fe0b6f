-- A mask that is gathered member by member.
use Rattle.std.proofs.Common.{◌≡◌, ℕ, ◌+◌, ◌*◌, ◌%◌, ◌^◌, ◌<◌, Bool, false, ◌||◌, ◌==◌, bit_or, add-one, arith, sym, ap, ◌∙◌}
use Rattle.std.proofs.Math.Pow.{pow-lt}
use Rattle.smp_mask.specs.Mask.{has}
use Rattle.smp_mask.proofs.Sets.{has_with, none_empty, same_members}
use Rattle.trace_model.specs.Ending.{joined_if, mask_below}

-- the number of one CPU
one_bit : (n : ℕ) → n < 32 → 1 * 2 ^ n % 4294967296 ≡ 2 ^ n
one_bit n below =
    let p : 2 ^ n < 2 ^ 32 = pow-lt below in
    omega arith

-- the mask with these members is that one
pub is_joined : (mask cpu more : ℕ) → cpu < 32 → ((c : ℕ) → has more c ≡ (has mask c || c == cpu)) → more ≡ bit_or mask (2 ^ cpu)
is_joined mask cpu more below members =
    same_members more (bit_or mask (2 ^ cpu)) (λ c. members c ∙ sym (has_with mask cpu c below) ∙ ap (λ (b : ℕ). has (bit_or mask b) c) (one_bit cpu below))

-- none is gathered yet
pub none_below : (passes : ℕ → Bool) (mask : ℕ) → ((c : ℕ) → has mask c ≡ false) → mask ≡ mask_below passes 0
unfolding mask_below
none_below passes mask none = none_empty mask none

-- one is tried
pub one_below : (passes : ℕ → Bool) (n mask more : ℕ) → mask ≡ mask_below passes n → more ≡ joined_if (passes n) mask n → more ≡ mask_below passes (n + 1)
unfolding mask_below
one_below passes n mask more e f = f ∙ ap (λ (m : ℕ). joined_if (passes n) m n) e ∙ ap (mask_below passes) (sym (add-one n))
