-- Tests of what a command asks for: what they mean of numbers and masks, and of a work.
use Rattle.std.proofs.Common.{◌≡◌, ◌≢◌, ℕ, zero, suc, ◌<◌, ◌^◌, Bool, true, false, ◌==◌, ◌&&◌, not, nat_lt, lt-ltb, lit<, cond, sym, refl, ◌∙◌, ◌⊎◌, inl, inr}
use Rattle.std.proofs.Common.{arith, Option, Some, None, bit_and, eqb-true, eq-eqb, ne_eqb}
use Rattle.std.proofs.lemmas.Nat.Bits.{bit_at-lt, bit_at_and, bit_at-pow_same, bit_at-pow_other}
use Rattle.std.proofs.{Math.Pow.pow-lt, lemmas.Bool.ltb-true, lemmas.Bool.Decides.nat_tests}
use Rattle.smp_mask.proofs.Sets.{has_above, has_and, same_members}
use Rattle.smp_stop_steps.specs.{has, SmpError, cpus, Kind, One, Multi, Patch, Work, mask_weight, IsOfKind, IsPatchWork, fits_kind, fits_patch, terms_of}
use Rattle.smp_stop_steps.specs.{unless, is_one, StopsValue, first_below, setup_of, declared.start.Terms.Terms}

-- no error: the test has passed
pub passed : (b : Bool) (e : SmpError) → unless b e ≡ None → b ≡ true
passed b e n = search arith

pub both : (x y : Bool) → (x && y) ≡ true → (x ≡ true) × (y ≡ true)
both x y e = search arith

pub of_both : (x y : Bool) → x ≡ true → y ≡ true → (x && y) ≡ true
of_both x y e f = search arith

pub not_true : (x : Bool) → not x ≡ true → x ≡ false
not_true x e = search arith

pub if_passed : (b : Bool) (x : Option SmpError) (e : SmpError) → cond b x (Some e) ≡ None → (b ≡ true) × (x ≡ None)
if_passed b x e n = search arith

pub ne_false : (m n : ℕ) → (m == n) ≡ false → m ≢ n
ne_false m n e = grind (arith, nat_tests)

pub is_same : (m n : ℕ) → (m == n) ≡ true → m ≡ n
is_same m n e = eqb-true m n e

-- a mask whose members are all among others
pub within : (mask online : ℕ) → bit_and mask online ≡ mask → (c : ℕ) → has mask c ≡ true → has online c ≡ true
within mask online e c is = grind (arith, nat_tests, bit_at-lt online c, bit_at-lt mask c, bit_at_and mask online c)

-- and the other way round
absorbed : (x y : Bool) → (x ≡ true → y ≡ true) → (x && y) ≡ x
absorbed x y f = search arith

pub all_within : (mask online : ℕ) → ((c : ℕ) → has mask c ≡ true → has online c ≡ true) → bit_and mask online ≡ mask
all_within mask online all = search (same_members, has_and, absorbed, arith)

-- the members of a mask are below it
small : (n : ℕ) → n < 2 ^ n
small zero = lit< tt
small (suc n) = let s = small n in let more : 2 ^ n < 2 ^ suc n = pow-lt (omega arith) in omega arith

-- all members of a mask below k are among others, or one is not
search_below : (mask online k : ℕ) → ((c : ℕ) → c < k → has mask c ≡ true → has online c ≡ true) ⊎ ((c : ℕ) × (has mask c ≡ true) × (has online c ≡ false))
search_below mask online zero = inl (λ c l is. absurd (let z : ⊥ = omega arith in z))
search_below mask online (suc k) = go (search_below mask online k) (has mask k) (has online k) refl refl
  where
    go : (((c : ℕ) → c < k → has mask c ≡ true → has online c ≡ true) ⊎ ((c : ℕ) × (has mask c ≡ true) × (has online c ≡ false))) → (x y : Bool) →
        has mask k ≡ x → has online k ≡ y → ((c : ℕ) → c < suc k → has mask c ≡ true → has online c ≡ true) ⊎
        ((c : ℕ) × (has mask c ≡ true) × (has online c ≡ false))
    go (inr found) x y m o = inr found
    go (inl all) true false m o = inr (k, m, o)
    go (inl all) true true m o = search arith
    go (inl all) false y m o = search arith

-- some member of a mask is none of the others, where not all are
pub some_outside : (mask online : ℕ) → bit_and mask online ≢ mask → (c : ℕ) × (has mask c ≡ true) × (has online c ≡ false)
some_outside mask online ne = go (search_below mask online mask)
  where
    below_it : (c : ℕ) → has mask c ≡ true → (b : Bool) → nat_lt c mask ≡ b → c < mask
    below_it c is b e = search (ltb-true, nat_tests, has_above, small, arith)

    go : (((c : ℕ) → c < mask → has mask c ≡ true → has online c ≡ true) ⊎ ((c : ℕ) × (has mask c ≡ true) × (has online c ≡ false))) →
        (c : ℕ) × (has mask c ≡ true) × (has online c ≡ false)
    go (inl all) = absurd (ne (all_within mask online (λ c is. all c (below_it c is (nat_lt c mask) refl) is)))
    go (inr found) = found

-- a mask of one CPU
pub one_bit : (n c : ℕ) → has (2 ^ n) c ≡ (c == n)
one_bit n c = search (bit_at-pow_same, eq-eqb, bit_at-pow_other, ne_eqb, arith)

pub not_one : (k : Kind) → is_one k ≡ false → k ≢ One
not_one k e = search arith

pub is_one_kind : (k : Kind) → is_one k ≡ true → k ≡ One
is_one_kind k e = search arith

module _ (t : Terms) (work : Work) where
  -- a patch that fits is one that begin takes
  pub is_patch_work : fits_patch t work ≡ true → IsPatchWork (has t.online) (first_below t.online cpus) t.keys work
  is_patch_work e = search (both, t.online, nat_lt, work.func, work.arg, is_same, work.mask, work.active, ltb-true, one_bit, t.keys, arith)

  -- and the other way round
  pub patch_fits : IsPatchWork (has t.online) (first_below t.online cpus) t.keys work → fits_patch t work ≡ true
  patch_fits is = let first = first_below t.online cpus in
      let mask : work.mask ≡ t.online = same_members work.mask t.online is.all in
      let active : work.active ≡ 2 ^ first = same_members work.active (2 ^ first) (λ c. is.first c ∙ sym (one_bit first c)) in
      search (of_both, nat_lt, eq-eqb, lt-ltb, arith)

-- a work that fits is one that begin takes
pub is_kind : (v : StopsValue) (cpu : ℕ) (work : Work) (k : Kind) → fits_kind (terms_of v cpu) work k ≡ true → IsOfKind (setup_of v.online v.labels) work k
is_kind v cpu work One e = is_same (mask_weight cpus work.mask) 1 e
is_kind v cpu work Multi e = tt
is_kind v cpu work Patch e = is_patch_work (terms_of v cpu) work e
