-- What a begin is refused for, of the members of its masks.
use Rattle.std.proofs.Common.{◌≡◌, ◌≢◌, ◌⊎◌, ℕ, zero, suc, ◌+◌, ◌<◌, ◌≤◌, ◌^◌, Bool, true, false, ◌==◌, ◌&&◌, not, nat_lt, cond, inl, inr, sym, refl, ap}
use Rattle.std.proofs.Common.{◌∙◌, subst, arith, eq-eqb, ne_eqb, lt-ltb, bit_and, Some}
use Rattle.std.proofs.{lemmas.Bool.cases_eq, lemmas.Bool.cases_lt, lemmas.Bool.Decides.nat_tests}
use Rattle.smp_mask.proofs.Sets.{has_above}
use Rattle.smp_mask.specs.Mask.{IsLeast}
use Rattle.smp_stop_steps.specs.{has, cpus, Kind, One, Multi, Patch, Work, sum_below, bit, mask_weight, first_below, fits_kind, fits_patch, fits_work}
use Rattle.smp_stop_steps.specs.{IsPatchWork, begin_refusal, unless, declared.start.Terms.Terms}
use Rattle.smp_stop_steps.specs.Members.{BeginRefuses, FitsMembers, HasItsCpus}
use Rattle.smp_stop_steps.proofs.TheMachine.Fits.{both, is_patch_work, is_same, ne_false, not_true, of_both, patch_fits, some_outside, within}
use Rattle.smp_stop_steps.proofs.TheMachine.Opened.{first_is}
use Rattle.smp_stop_steps.specs.error

-- the members of a mask of 32 CPUs are below 32
pub member_low : (mask c : ℕ) → mask < 2 ^ 32 → has mask c ≡ true → c < 32
member_low mask c low is = elim (cases_lt c 32) [
  | inl below ↦ below
  | inr above ↦ absurd (let bad : true ≡ false = sym is ∙ has_above 32 mask c low above in cc)
]

-- how many members there are below k: some, none, or one
module _ (mask : ℕ) where
  weight_member : (k : ℕ) → mask_weight k mask ≢ 0 → (c : ℕ) × (c < k) × (has mask c ≡ true)
  unfolding sum_below
  weight_member zero some = absurd (some refl)
  weight_member (suc k) some = go (weight_member k) (has mask k) refl
    where
      go : (mask_weight k mask ≢ 0 → (c : ℕ) × (c < k) × (has mask c ≡ true)) → (b : Bool) → has mask k ≡ b
          → (c : ℕ) × (c < suc k) × (has mask c ≡ true)
      go before true e = (k, omega arith, e)
      go before false e = search arith

  member_weight : (k c : ℕ) → c < k → has mask c ≡ true → mask_weight k mask ≢ 0
  unfolding sum_below
  member_weight zero c low h = λ z. omega arith
  member_weight (suc k) c low h = elim (cases_eq c k) [
    | inl same ↦ λ z. let one : bit (has mask k) ≡ 1 = ap bit (ap (has mask) (sym same) ∙ h) in omega arith
    | inr other ↦ λ z. member_weight k c (omega arith) h (omega arith)
  ]

  none_below : (k : ℕ) → mask_weight k mask ≡ 0 → (c : ℕ) → c < k → has mask c ≡ false
  none_below k z c low = search (member_weight, arith)

  one_below : (k : ℕ) → mask_weight k mask ≡ 1 → (c : ℕ) × (c < k) × ((d : ℕ) → d < k → has mask d ≡ (d == c))
  unfolding sum_below
  one_below zero one = absurd (let bad : 0 ≡ 1 = one in cc)
  one_below (suc k) one = go (one_below k) (has mask k) refl
    where
      at_top : has mask k ≡ true → (d : ℕ) → (d < k) ⊎ (k ≤ d) → d < suc k → has mask d ≡ (d == k)
      at_top e d (inl below) low = search (none_below, ne_eqb, arith)
      at_top e d (inr from) low = let same : d ≡ k = omega arith in ap (has mask) same ∙ (e ∙ sym (eq-eqb d k same))

      go : (mask_weight k mask ≡ 1 → (c : ℕ) × (c < k) × ((d : ℕ) → d < k → has mask d ≡ (d == c))) → (b : Bool) → has mask k ≡ b
          → (c : ℕ) × (c < suc k) × ((d : ℕ) → d < suc k → has mask d ≡ (d == c))
      go before true e = (k, omega arith, λ d l. at_top e d (cases_lt d k) l)
      go before false e = search (cases_lt, arith)

  alone_weight : (k c : ℕ) → ((d : ℕ) → d < k → has mask d ≡ (d == c)) → mask_weight k mask ≡ bit (nat_lt c k)
  unfolding sum_below
  alone_weight zero c is = grind (arith, nat_tests)
  alone_weight (suc k) c is = more (is k (omega arith)) (alone_weight k c (λ d low. is d (omega (arith, low))))
    where
      more : has mask k ≡ (k == c) → mask_weight k mask ≡ bit (nat_lt c k) → bit (has mask k) + mask_weight k mask ≡ bit (nat_lt c (suc k))
      more here rest = rw (here, rest) (grind (arith, nat_tests))

-- no member comes before the first one
no_member : {b : Bool} → b ≡ false → b ≡ true → ⊥
no_member f t = let bad : true ≡ false = sym t ∙ f in cc

pub first_least : (mask k c : ℕ) → c < k → has mask c ≡ true → first_below mask k ≤ c
unfolding first_below
first_least mask zero c low member = absurd (omega arith)
first_least mask (suc k) c low member = go (λ l. first_least mask k c l member) (cases_eq (first_below mask k) k) (cases_eq c k)
  where
    go : (c < k → first_below mask k ≤ c) → (first_below mask k ≡ k) ⊎ (first_below mask k ≢ k) → (c ≡ k) ⊎ (c ≢ k) → first_below mask (suc k) ≤ c
    go before (inl e) (inl d) = search (eq-eqb, arith)
    go before (inl e) (inr d) = absurd (no_member ((first_is mask k).0 e c (omega arith)) member)
    go before (inr ne) (inl d) = let s = ((first_is mask k).1 ne).0 in rw (ne_eqb (first_below mask k) k ne) (omega arith)
    go before (inr ne) (inr d) = let s = before (omega arith) in rw (ne_eqb (first_below mask k) k ne) (omega arith)

-- a begin with these terms, where this CPU is online, and the gate is held just where they say so
module _ (t : Terms) (work : Work) (low : (d : ℕ) → has t.online d ≡ true → d < 32) (c : ℕ) (is : has t.online c ≡ true)
    (holds : Type 0) (held : t.holds_gate ≡ true → holds) (of_held : holds → t.holds_gate ≡ true) where
  abbrev first : ℕ
  first = first_below t.online cpus

  some_first : first ≢ 32
  some_first e = no_member ((first_is t.online 32).0 e c (low c is)) is

  is_first : IsLeast (has t.online) first
  is_first = record { passing = ((first_is t.online 32).1 some_first).1; least = λ d on. first_least t.online 32 d (low d on) on }

  of_patch : (n : ℕ) → IsLeast (has t.online) n → IsPatchWork (has t.online) n t.keys work → fits_patch t work ≡ true
  of_patch n h p = let same : n ≡ first = (let x = h.least first is_first.passing in let y = is_first.least n h.passing in omega arith) in
      patch_fits t work (subst (λ (m : ℕ). IsPatchWork (has t.online) m t.keys work) same p)

  kind_of : (k : Kind) → fits_kind t work k ≡ true → HasItsCpus (has t.online) t.keys work k
  kind_of One e = one_below work.mask 32 (is_same (mask_weight 32 work.mask) 1 e)
  kind_of Multi e = tt
  kind_of Patch e = (first, is_first, is_patch_work t work e)

  of_kind : (k : Kind) → HasItsCpus (has t.online) t.keys work k → fits_kind t work k ≡ true
  of_kind One h = eq-eqb (mask_weight 32 work.mask) 1 (alone_weight work.mask 32 h.0 h.2 ∙ ap bit (lt-ltb h.0 32 h.1))
  of_kind Multi h = refl
  of_kind Patch h = of_patch h.0 h.1 h.2

  members_of : t.holds_gate ≡ true → fits_work t work ≡ true → FitsMembers holds (has t.online) t.keys work
  members_of gate e = let b = both (not (mask_weight 32 work.mask == 0)) (fits_kind t work work.kind) e in record {
    gate = held gate;
    some = weight_member work.mask 32 (ne_false (mask_weight 32 work.mask) 0 (not_true (mask_weight 32 work.mask == 0) b.0));
    kind = kind_of work.kind b.1;
  }

  of_members : FitsMembers holds (has t.online) t.keys work → fits_work t work ≡ true
  of_members f = of_both (not (mask_weight 32 work.mask == 0)) (fits_kind t work work.kind)
      (ap not (ne_eqb (mask_weight 32 work.mask) 0 (member_weight work.mask 32 f.some.0 f.some.1 f.some.2))) (of_kind work.kind f.kind)

  fits : (t.holds_gate && fits_work t work) ≡ true → FitsMembers holds (has t.online) t.keys work
  fits e = let b = both t.holds_gate (fits_work t work) e in members_of b.0 b.1

  fits_not : (t.holds_gate && fits_work t work) ≡ false → FitsMembers holds (has t.online) t.keys work → ⊥
  fits_not e f = no_member e (of_both t.holds_gate (fits_work t work) (of_held f.gate) (of_members f))

  pub refuses_members : (is_open : Bool) → BeginRefuses holds (has t.online) t.keys work is_open (begin_refusal t work is_open)
  refuses_members true = refl
  refuses_members false = go (t.holds_gate && fits_work t work) (bit_and work.mask t.online == work.mask) refl refl
    where
      go : (a b : Bool) → (t.holds_gate && fits_work t work) ≡ a → (bit_and work.mask t.online == work.mask) ≡ b
          → BeginRefuses holds (has t.online) t.keys work false (cond a (unless b error.NoStopper) (Some error.BadArgument))
      go false b e f = (refl, fits_not e)
      go true true e f = (refl, fits e, within work.mask t.online (is_same (bit_and work.mask t.online) work.mask f))
      go true false e f = (refl, fits e, some_outside work.mask t.online (ne_false (bit_and work.mask t.online) work.mask f))
