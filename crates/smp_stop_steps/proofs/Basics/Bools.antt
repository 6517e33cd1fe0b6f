-- Tests that are joined.
use Rattle.std.proofs.Common.{◌≡◌, Bool, true, false, ◌&&◌, ◌||◌, arith}

pub or_true : (b : Bool) → b || true ≡ true
or_true b = search arith

pub or_false : (b c : Bool) → c ≡ false → b || c ≡ b
or_false b c e = search arith

pub both_true : (b c : Bool) → (b && c) ≡ true → (b ≡ true) × (c ≡ true)
both_true b c e = search arith
