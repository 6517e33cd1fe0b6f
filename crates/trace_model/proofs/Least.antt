-- The first number that passes, as a loop finds it.
use Rattle.std.proofs.Common.{◌≡◌, ℕ, zero, suc, ◌+◌, ◌-◌, ◌<◌, ◌≤◌, Bool, true, false, Option, Some, None, arith, refl, sym}
use Rattle.trace_model.specs.Stop.{first_from}

-- one less is left after each
left_is : (c end : ℕ) → c < end → end - c ≡ suc (end - (c + 1))
left_is c end below = omega (arith, below)

none_left : (c end : ℕ) → end ≤ c → end - c ≡ 0
none_left c end ended = omega (arith, ended)

-- a number that passes is the first
pub first_hit : (p : ℕ → Bool) (c end : ℕ) → c < end → p c ≡ true → first_from p c (end - c) ≡ Some c
unfolding first_from
first_hit p c end below passes = rw (left_is c end below, passes)

-- one that does not pass is left behind
pub first_miss : (p : ℕ → Bool) (c end : ℕ) → c < end → p c ≡ false → first_from p (c + 1) (end - (c + 1)) ≡ first_from p c (end - c)
unfolding first_from
first_miss p c end below fails = sym (rw (left_is c end below, fails))

-- at the end none has passed
pub first_end : (p : ℕ → Bool) (c end : ℕ) → end ≤ c → first_from p c (end - c) ≡ None
unfolding first_from
first_end p c end ended = rw (none_left c end ended)
