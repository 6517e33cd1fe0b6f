-- How a sign is shared.
use Rattle.std.specs.Prelude.{ℕ, ◌==◌, cond, Option, Some, None}
use Rattle.smp_start.specs.declared.sign.Sign.{Sign}
use Rattle.smp_start.specs.declared.sign.Sign.TheVariants.{Open, Cancelled}

-- the sign that a number means, if any
abbrev pub sign_of : ℕ → Option Sign
sign_of number = cond (number == 1) (Some Open) (cond (number == 2) (Some Cancelled) None)
