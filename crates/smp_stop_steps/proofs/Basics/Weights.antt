-- The bits of a mask: how many of them are set, and the least.
use Rattle.std.proofs.Common.{◌≡◌, ℕ, zero, suc, ◌+◌, ◌*◌, ◌%◌, ◌^◌, ◌<◌, ◌≤◌, true, false, ◌≢◌, ◌==◌, ap, sym, ◌∙◌, refl, inl, inr, eq-eqb, ne_eqb, arith}
use Rattle.std.proofs.{lemmas.Bool.cases_lt, lemmas.Nat.mod-pow-add, lemmas.Nat.ones-le, lemmas.Nat.ones_cat, lemmas.Nat.pow_pos, lemmas.Nat.Bits.bit_at-lt}
use Rattle.std.specs.{Int.bit_at, Int.Count.ones}
use Rattle.smp_mask.specs.Mask.{IsLeast}
use Rattle.smp_stop_steps.specs.{has, sum_below, bit, mask_weight, first_below}
use lib.Count.{ones_step}

bit_is : (mask k : ℕ) → bit (has mask k) ≡ ones (bit_at mask k)
bit_is mask k = let low = bit_at-lt mask k in go (bit_at mask k) low
  where
    go : (b : ℕ) → b < 2 → bit (b == 1) ≡ ones b
    go zero h = let none = ones-le 0 0 (omega arith) in omega arith
    go (suc zero) h = let step = ones_step 1 in let none = ones-le 0 0 (omega arith) in omega arith
    go (suc (suc b)) h = absurd (omega arith)

-- the members of a mask below k are as many as the ones among its low k bits
pub weight_ones : (k mask : ℕ) → mask_weight k mask ≡ ones (mask % 2 ^ k)
unfolding sum_below
weight_ones zero mask = search (ones-le, arith)
weight_ones (suc k) mask = let next : suc k ≡ 1 + k = omega arith in
    let top : ones (mask % 2 ^ suc k) ≡ ones (bit_at mask k * 2 ^ k + mask % 2 ^ k) = ap (λ e. ones (mask % 2 ^ e)) next ∙ ap ones (mod-pow-add mask 1 k) in
    let one = bit_is mask k in
    let rest = weight_ones k mask in
    let both = ones_cat k (bit_at mask k) (mask % 2 ^ k) (omega (arith, pow_pos k)) in
    omega arith

-- the least CPU of a mask, with one CPU more
first_missing : (mask k : ℕ) → first_below mask k ≡ k → has mask k ≡ false → first_below mask (suc k) ≡ suc k
unfolding first_below
first_missing mask k same is = let t : (first_below mask k == k) ≡ true = eq-eqb (first_below mask k) k same in rw (t, is) refl

first_found : (mask k : ℕ) → first_below mask k ≡ k → has mask k ≡ true → first_below mask (suc k) ≡ k
unfolding first_below
first_found mask k same is = let t : (first_below mask k == k) ≡ true = eq-eqb (first_below mask k) k same in rw (t, is) refl

first_kept : (mask k : ℕ) → first_below mask k ≢ k → first_below mask (suc k) ≡ first_below mask k
unfolding first_below
first_kept mask k other = let t : (first_below mask k == k) ≡ false = ne_eqb (first_below mask k) k other in rw t refl

first_none : (mask : ℕ) → first_below mask 0 ≡ 0
unfolding first_below
first_none mask = refl

-- where none is below k
pub first_past : (mask k : ℕ) → ((c : ℕ) → c < k → has mask c ≡ false) → first_below mask k ≡ k
first_past mask zero none = first_none mask
first_past mask (suc k) none = first_missing mask k (first_past mask k (λ c low. none c (omega arith))) (none k (omega arith))

-- where one is
pub first_at : (mask n k : ℕ) → IsLeast (λ c. has mask c) n → n < k → first_below mask k ≡ n
first_at mask n zero least low = absurd (omega arith)
first_at mask n (suc k) least low = elim (cases_lt n k) [
  | inl before ↦ let e = first_at mask n k least before in first_kept mask k (λ same. omega arith) ∙ e
  | inr from ↦
      let here : n ≡ k = omega arith in
      first_found mask k (first_past mask k (λ c low. missing from c low)) (ap (λ i. has mask i) (sym here) ∙ least.passing) ∙ sym here
]
  where
    missing : k ≤ n → (c : ℕ) → c < k → has mask c ≡ false
    missing from c low = search arith
