-- Which numbers a number of which the digits are half read can still become.
use Rattle.std.proofs.Common.{◌≡◌, ℕ, zero, suc, ◌+◌, ◌*◌, ◌/◌, ◌^◌, ◌<◌, ◌≤◌, true, false, nat_lt, ◌==◌, ◌&&◌, ◌||◌, ◌⊎◌, inl, inr, refl, arith}
use Rattle.std.proofs.Math.Nat.{pow-succ', one-le-pow, mul-le-mul_left, mul-le-mul_right}
use Rattle.std.proofs.lemmas.Bool.{cases_Bool, cases_lt}
use Rattle.std.proofs.lemmas.Bool.Decides.{nat_tests}
use Rattle.smp_mask.specs.Reading.{reaches_within, reaches, is_live}
use Rattle.smp_mask.specs.declared.parse.Place.TheVariants.{High}

-- digits more, j of them, take the numbers from least to below past to one from low on and below the width
pub record Reaches (width low least past : ℕ) : Type 0 where
  pub j : ℕ
  pub digits : (j ≡ 0) ⊎ (0 < least)
  pub below : least * 10 ^ j < width
  pub above : low < past * 10 ^ j

-- one round of the search
pub reach_on : (k width low least past : ℕ) → past ≤ low → 0 < least → low < k + past → least < past
    → (n : ℕ) × (low < n + past * 10) × (reaches_within k width low least past ≡ reaches_within n width low (least * 10) (past * 10))
unfolding reaches_within
reach_on zero width low least past on some fuel up = absurd (omega arith)
reach_on (suc k) width low least past on some fuel up =
    let go : (nat_lt low past || least == 0) ≡ false = grind (arith, nat_tests) in
    (k, omega arith, rw go refl)

pub reach_end : (k width low least past : ℕ) → (nat_lt low past || least == 0) ≡ true
    → reaches_within k width low least past ≡ (nat_lt low past && nat_lt least width)
unfolding reaches_within
reach_end zero width low least past h = refl
reach_end (suc k) width low least past h = rw h refl

pub reach_end_past : (k width low least past : ℕ) → low < past → nat_lt least width ≡ reaches_within k width low least past
reach_end_past k width low least past h = grind (arith, nat_tests, reach_end k width low least past (grind (arith, nat_tests)))

pub reach_end_none : (k width low least past : ℕ) → past ≤ low → least ≡ 0 → nat_lt low past ≡ reaches_within k width low least past
reach_end_none k width low least past h z = grind (arith, nat_tests, reach_end k width low least past (grind (arith, nat_tests)))

pub reach_sound : (k width low least past : ℕ) → reaches_within k width low least past ≡ true → Reaches width low least past
unfolding reaches_within
reach_sound zero width low least past h = record { j = 0; digits = inl refl; below = grind (arith, nat_tests, h); above = grind (arith, nat_tests, h) }
reach_sound (suc k) width low least past h = elim (cases_Bool (nat_lt low past || least == 0)) [
  | inl ends ↦
      let t : (nat_lt low past && nat_lt least width) ≡ true = grind (arith, ends, h) in
      record { j = 0; digits = inl refl; below = grind (arith, nat_tests, t); above = grind (arith, nat_tests, t) }
  | inr goes ↦
      let s = reach_sound k width low (least * 10) (past * 10) (grind (arith, goes, h)) in
      let p : 10 ^ suc s.j ≡ 10 * 10 ^ s.j = pow-succ' 10 s.j in
      record { j = suc s.j; digits = inr (grind (arith, nat_tests, goes)); below = rw p (grind (arith, s.below)); above = rw p (grind (arith, s.above)) }
]

pub reach_complete : (k width low least past j : ℕ) → ((j ≡ 0) ⊎ (0 < least)) → least * 10 ^ j < width → low < past * 10 ^ j → low < k + past → least < past
    → reaches_within k width low least past ≡ true
unfolding reaches_within
reach_complete zero width low least past j digits below above fuel up =
    let p : 1 ≤ 10 ^ j = one-le-pow j 10 (omega arith) in
    grind (arith, nat_tests, below, fuel, mul-le-mul_left least p)
reach_complete (suc k) width low least past zero digits below above fuel up =
    let here : low < past = omega (arith, above) in
    let ends : (nat_lt low past || least == 0) ≡ true = grind (arith, nat_tests) in
    rw ends (grind (arith, nat_tests, below, here))
reach_complete (suc k) width low least past (suc j) digits below above fuel up =
    let p : 10 ^ suc j ≡ 10 * 10 ^ j = pow-succ' 10 j in
    let one : 1 ≤ 10 ^ suc j = one-le-pow (suc j) 10 (omega arith) in
    let some : 0 < least = grind (arith, digits) in
    let least_below : least < width = omega (arith, below, mul-le-mul_left least one) in
    elim (cases_lt low past) [
      | inl here ↦
          let ends : (nat_lt low past || least == 0) ≡ true = grind (arith, nat_tests) in
          rw ends (grind (arith, nat_tests))
      | inr on ↦
          let go : (nat_lt low past || least == 0) ≡ false = grind (arith, nat_tests) in
          let wide : least * 10 * 10 ^ j ≡ least * 10 ^ suc j = rw p (omega arith) in
          let high : past * 10 * 10 ^ j ≡ past * 10 ^ suc j = rw p (omega arith) in
          rw go (reach_complete k width low (least * 10) (past * 10) j (inr (omega arith)) (omega (arith, wide, below)) (omega (arith, high, above))
          (omega arith) (omega arith))
    ]

-- what is reached is below the width already
pub reach_high : (k width low least past : ℕ) → reaches_within k width low least past ≡ true → least < width
reach_high k width low least past h =
    let s = reach_sound k width low least past h in
    let one : 1 ≤ 10 ^ s.j = one-le-pow s.j 10 (omega arith) in
    omega (arith, s.below, mul-le-mul_left least one)

pub reach_past_width : (width low high : ℕ) → width ≤ high → reaches width low high ≡ false
reach_past_width width low high h = elim (cases_Bool (reaches width low high)) [
  | inl yes_ ↦ absurd (omega (arith, reach_high low width low high (high + 1) yes_))
  | inr not_ ↦ not_
]

-- a whole number in its range reaches it
pub reach_whole : (width low high : ℕ) → low ≤ high → high < width → reaches width low high ≡ true
reach_whole width low high up below = reach_complete low width low high (high + 1) 0 (inl refl) (omega arith) (omega arith) (omega arith) (omega arith)

-- a number does so as soon as its last digit is off
pub reach_shorter : (width low n : ℕ) → 10 ≤ n → reaches width low n ≡ true → reaches width low (n / 10) ≡ true
reach_shorter width low n long h =
    let s = reach_sound low width low n (n + 1) h in
    let p : 10 ^ suc s.j ≡ 10 * 10 ^ s.j = pow-succ' 10 s.j in
    let lower : n / 10 * 10 ≤ n = omega arith in
    let upper : n + 1 ≤ (n / 10 + 1) * 10 = omega arith in
    let below : n / 10 * 10 ^ suc s.j < width = rw p (grind (arith, s.below, mul-le-mul_right (10 ^ s.j) lower)) in
    let above : low < (n / 10 + 1) * 10 ^ suc s.j = rw p (grind (arith, s.above, mul-le-mul_right (10 ^ s.j) upper)) in
    reach_complete low width low (n / 10) (n / 10 + 1) (suc s.j) (inr (omega arith)) below above (omega arith) (omega arith)

-- a number that is half read in a place from which a CPU list goes on is below the width
pub live_high : (width low high : ℕ) → is_live width (High low high) ≡ true → high < width
live_high width low high h = reach_high low width low high (high + 1) (grind (arith, h))
