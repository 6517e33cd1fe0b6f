-- What the bit operations of `CpuMask` do to the members. All is over the width w of the set, of at most 32 bits.
use Rattle.std.proofs.Common.{◌≡◌, ℕ, ◌+◌, ◌-◌, ◌*◌, ◌%◌, ◌^◌, ◌<◌, ◌≤◌, true, false, not, cond, subst, inl, inr, refl, min, nat_le, ◌/◌, Option, Some, None}
use Rattle.std.proofs.Common.{Bool, IsTrue, ◌&&◌, ◌||◌, ◌==◌, bit_and, bit_or, nat_lt, [], ◌∷◌, length, length-append, zero, suc, sym, ap, ◌∙◌, arith}
use Rattle.std.specs.Int.{bit_at, w32, trailing_zeros}
use Rattle.std.specs.Int.Count.{ones}
use Rattle.std.proofs.Math.Nat.{pow-suc, pow-le-pow_right}
use Rattle.std.proofs.Math.Pow.{pow-lt}
use Rattle.std.proofs.lemmas.Bool.{cases_lt}
use Rattle.std.proofs.lemmas.Bool.Decides.{nat_tests}
use Rattle.std.proofs.lemmas.Nat.{or_lt, and_le_l, ones-le, ones_cat, mod-pow-add, pow_pos, shr-shr}
use Rattle.std.proofs.lemmas.Nat.Bits.{bit_at-lt, bit_at_and, bit_at_or, bit_at_above, bit_at_set_same, bit_at_set_other, bit_at_clear_same, bit_at_clear_other}
use Rattle.std.proofs.lemmas.Nat.Bits.{bit_at-trailing_zeros, ones_shl, bit_at_mask_inside, bit_at_mask_below, bit_at_mask_above, bit_at_ones}
use Rattle.std.proofs.lemmas.Nat.Bits.{bit_at_ones_above, ones_shr, bit_at-zero, bit_at_cat_low, bit_at_cat_high, same_from_bits}
use lib.Count.{ones_step}
use Rattle.smp_mask.specs.Mask.{has, members_below, IsLeast, FindsLeast}

-- a set of w CPUs has no member from w on
pub has_above : (w n c : ℕ) → n < 2 ^ w → w ≤ c → has n c ≡ false
has_above w n c low high = grind (arith, nat_tests, bit_at_above n w c low high)

pub has_and : (a b c : ℕ) → has (bit_and a b) c ≡ (has a c && has b c)
has_and a b c = grind (arith, nat_tests, bit_at_and a b c, bit_at-lt a c, bit_at-lt b c)

pub has_or : (a b c : ℕ) → has (bit_or a b) c ≡ (has a c || has b c)
has_or a b c = grind (arith, nat_tests, bit_at_or a b c, bit_at-lt a c, bit_at-lt b c)

pub has_with : (n k c : ℕ) → k < 32 → has (bit_or n (1 * 2 ^ k % 4294967296)) c ≡ (has n c || c == k)
has_with n k c h = grind (arith, nat_tests, bit_at_set_same w32 n k h, bit_at_set_other w32 n k h c)

pub with_below : (w n k : ℕ) → w ≤ 32 → n < 2 ^ w → k < w → bit_or n (1 * 2 ^ k % 4294967296) < 2 ^ w
with_below w n k within low h =
    let p : 2 ^ k < 2 ^ w = pow-lt h in
    or_lt w n (1 * 2 ^ k % 4294967296) low (omega arith)

pub has_without : (w n k c : ℕ) → w ≤ 32 → n < 2 ^ w → k < w → has (bit_and n (4294967295 - 1 * 2 ^ k % 4294967296)) c ≡ (has n c && not (c == k))
has_without w n k c within low h =
    let k32 : k < 32 = omega arith in
    grind (
      arith,
      nat_tests,
      bit_at_clear_same w32 n k k32,
      bit_at_clear_other w32 n k k32 c,
      bit_at_and n (4294967295 - 1 * 2 ^ k % 4294967296) c,
      bit_at_above n w c low,
    )

pub has_without_none : (w n k c : ℕ) → n < 2 ^ w → w ≤ k → has n c ≡ (has n c && not (c == k))
has_without_none w n k c low h = grind (arith, nat_tests, bit_at_above n w c low)

pub first_is : (n : ℕ) → n < 2 ^ 32 → 0 < n → IsLeast (λ c. has n c) (trailing_zeros w32 n)
first_is n low some =
    let t = bit_at-trailing_zeros w32 n some low in
    record { passing = grind (arith, nat_tests, t.1); least = λ c h. grind (arith, nat_tests, t.2 c) }

bit_counts : (n c : ℕ) → length (cond (has n c) (c ∷ []) []) ≡ bit_at n c
bit_counts n c = grind (arith, nat_tests, bit_at-lt n c)

ones_bit : (b : ℕ) → b < 2 → ones b ≡ b
ones_bit zero h = omega (arith, ones-le 0 0 (omega arith))
ones_bit (suc zero) h = omega (arith, ones_step 1, ones-le 0 0 (omega arith))
ones_bit (suc (suc b)) h = absurd (omega arith)

-- the members below k are as many as the ones among the low k bits
below_counts : (n k : ℕ) → length (members_below n k) ≡ ones (n % 2 ^ k)
unfolding members_below
below_counts n zero =
    let e : n % 1 ≡ 0 = omega arith in
    sym (ap ones e ∙ ones_bit 0 (omega arith))
below_counts n (suc k) =
    let next : suc k ≡ 1 + k = omega arith in
    let low : n % 2 ^ k < 2 ^ k = omega (arith, pow_pos k) in
    let top : ones (n % 2 ^ suc k) ≡ ones (bit_at n k * 2 ^ k + n % 2 ^ k) = ap (λ e. ones (n % 2 ^ e)) next ∙ ap ones (mod-pow-add n 1 k) in
    length-append (members_below n k) (cond (has n k) (k ∷ []) [])
    ∙ omega (arith, below_counts n k, bit_counts n k, top, ones_cat k (bit_at n k) (n % 2 ^ k) low, ones_bit (bit_at n k) (bit_at-lt n k))

pub weight_is : (w n : ℕ) → n < 2 ^ w → ones n ≡ length (members_below n w)
weight_is w n low = let e : n % 2 ^ w ≡ n = grind arith in sym (below_counts n w ∙ ap ones e)

-- a member of a set of w CPUs is below w
pub member_below : (w n c : ℕ) → n < 2 ^ w → has n c ≡ true → c < w
member_below w n c low h = grind (arith, nat_tests, has_above w n c low)

-- the members above k
pub has_after : (n k c : ℕ) → n < 2 ^ 32 → k < 32 → has (bit_and n (4294967295 * 2 ^ k % 4294967296 * 2 % 4294967296)) c ≡ (nat_lt k c && has n c)
has_after n k c low h =
    let p : 2 ^ suc k ≡ 2 ^ k * 2 = pow-suc 2 k in
    let step : suc k ≤ 32 = omega arith in
    let top : 2 ^ suc k ≤ 2 ^ 32 = pow-le-pow_right (omega arith) step in
    let high : 4294967295 * 2 ^ k % 4294967296 ≡ 2 ^ 32 - 2 ^ k = ones_shl 32 k (omega arith) in
    let mask : 4294967295 * 2 ^ k % 4294967296 * 2 % 4294967296 ≡ 2 ^ 32 - 2 ^ suc k = rw high (grind (arith, p, top)) in
    rw mask (grind (
      arith,
      nat_tests,
      bit_at_and n (2 ^ 32 - 2 ^ suc k) c,
      bit_at_mask_inside (suc k) 32 c,
      bit_at_mask_below (suc k) 32 c,
      bit_at-lt n c,
      bit_at_above n 32 c low,
    ))

pub first_below : (w n : ℕ) → w ≤ 32 → n < 2 ^ w → 0 < n → trailing_zeros w32 n < w
first_below w n within low some =
    let top : 2 ^ w ≤ 2 ^ 32 = pow-le-pow_right (omega arith) within in
    let t = bit_at-trailing_zeros w32 n some (omega arith) in
    grind (arith, t.1, bit_at_above n w (trailing_zeros w32 n) low)

pub and_below : (w a b : ℕ) → a < 2 ^ w → bit_and a b < 2 ^ w
and_below w a b low = omega (arith, and_le_l a b)

pub same_members : (a b : ℕ) → ((c : ℕ) → has a c ≡ has b c) → a ≡ b
same_members a b same = same_from_bits a b (λ c. grind (arith, nat_tests, same c, bit_at-lt a c, bit_at-lt b c))

run_bit : (low high i : ℕ) → low ≤ high → high < 32 → min (bit_at (2 ^ 32 - 2 ^ low) i) (bit_at (2 ^ suc high - 1) i) ≡ bit_at (2 ^ suc high - 2 ^ low) i
run_bit low high i up within = elim (cases_lt i low) [
  | inl below ↦ rw (bit_at_mask_below low 32 i below, bit_at_mask_below low (suc high) i below) (omega (arith, bit_at-lt (2 ^ suc high - 1) i))
  | inr from_low ↦ elim (cases_lt i (suc high)) [
    | inl inside ↦ rw (bit_at_mask_inside low 32 i from_low (omega arith), bit_at_mask_inside low (suc high) i from_low inside, bit_at_ones (suc high) i inside)
        refl
    | inr past ↦ rw (bit_at_ones_above (suc high) i past, bit_at_mask_above low (suc high) i past) (omega (arith, bit_at-lt (2 ^ 32 - 2 ^ low) i))
  ]
]

-- the mask of a run of CPUs, as the two shifts give it
pub run_bits : (low high : ℕ) → low ≤ high → high < 32 → bit_and (4294967295 * 2 ^ low % 4294967296) (4294967295 / 2 ^ (31 - high)) ≡ 2 ^ suc high - 2 ^ low
run_bits low high up within =
    let from_low : 4294967295 * 2 ^ low % 4294967296 ≡ 2 ^ 32 - 2 ^ low = ones_shl 32 low (omega arith) in
    let width : 32 - (31 - high) ≡ suc high = omega arith in
    let to_high : 4294967295 / 2 ^ (31 - high) ≡ 2 ^ suc high - 1 = ones_shr 32 (31 - high) (omega arith) ∙ ap (λ e. 2 ^ e - 1) width in
    rw (from_low, to_high) (same_from_bits _ _ (λ i. bit_at_and (2 ^ 32 - 2 ^ low) (2 ^ suc high - 1) i ∙ run_bit low high i up within))

pub has_run : (n low high c : ℕ) → low ≤ high → has (bit_or n (2 ^ suc high - 2 ^ low)) c ≡ (has n c || (nat_le low c && nat_le c high))
has_run n low high c up =
    grind (
      arith,
      nat_tests,
      bit_at_or n (2 ^ suc high - 2 ^ low) c,
      bit_at-lt n c,
      bit_at_mask_below low (suc high) c,
      bit_at_mask_inside low (suc high) c,
      bit_at_mask_above low (suc high) c,
    )

pub run_below : (w n low high : ℕ) → n < 2 ^ w → high < w → bit_or n (2 ^ suc high - 2 ^ low) < 2 ^ w
run_below w n low high below within =
    let step : suc high ≤ w = omega arith in
    let top : 2 ^ suc high ≤ 2 ^ w = pow-le-pow_right (omega arith) step in
    or_lt w n (2 ^ suc high - 2 ^ low) below (omega (arith, pow_pos low, pow_pos w))

pub has_none : (c : ℕ) → has 0 c ≡ false
has_none c = grind (arith, nat_tests, bit_at-zero c)

pub none_empty : (n : ℕ) → ((c : ℕ) → has n c ≡ false) → n ≡ 0
none_empty n none = same_members n 0 (λ c. none c ∙ sym (has_none c))

-- the members of n above k, as a number
abbrev pub above_of : ℕ → ℕ → ℕ
above_of n k = n / 2 ^ suc k * 2 ^ suc k + 0

bit_above_of : (n k c : ℕ) → suc k ≤ c → bit_at (above_of n k) c ≡ bit_at n c
bit_above_of n k c from =
    let place : suc k + (c - suc k) ≡ c = omega arith in
    let shifted : n / 2 ^ suc k / 2 ^ (c - suc k) ≡ n / 2 ^ c = shr-shr n (suc k) (c - suc k) ∙ ap (λ z. n / 2 ^ z) place in
    bit_at_cat_high (n / 2 ^ suc k) (suc k) 0 c (pow_pos (suc k)) from ∙ ap (λ z. z % 2) shifted

pub has_above_of : (n k c : ℕ) → has (above_of n k) c ≡ (nat_lt k c && has n c)
has_above_of n k c = elim (cases_lt c (suc k)) [
  | inl below ↦ grind (arith, nat_tests, bit_at_cat_low (n / 2 ^ suc k) (suc k) 0 c below, bit_at-zero c)
  | inr from ↦ grind (arith, nat_tests, bit_above_of n k c from)
]
