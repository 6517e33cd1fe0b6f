-- Numbers of digits.
use Rattle.std.specs.Prelude.{ℕ, ◌+◌, ◌-◌, ◌*◌, nat_le, nat_lt, ◌&&◌, if◌then◌else◌, List, [], ◌∷◌, Option, Some, None}

-- the digit that a byte is, up to 15
abbrev pub digit_of : ℕ → Option ℕ
digit_of b = if nat_le 48 b && nat_le b 57 then Some (b - 48) else (if nat_le 97 b && nat_le b 102 then Some (b - 97 + 10) else None)

-- a number with one more digit, of at most 64 bits
abbrev pub and_digit : ℕ → ℕ → Option ℕ → Option ℕ
and_digit base n None = None
and_digit base n (Some d) = if nat_lt d base && nat_le (n * base + d) 18446744073709551615 then Some (n * base + d) else None

unfoldable pub with_digit : ℕ → ℕ → ℕ → Option ℕ
with_digit base n b = and_digit base n (digit_of b)

-- the number that goes on with these digits
abbrev pub digits_on : ℕ → Option ℕ → List ℕ → Option ℕ
digits_on base None bs = None
digits_on base (Some n) [] = Some n
digits_on base (Some n) (b ∷ bs) = digits_on base (with_digit base n b) bs

-- the number that a text of digits is in this base
abbrev pub number_of : ℕ → List ℕ → Option ℕ
number_of base [] = None
number_of base (b ∷ bs) = digits_on base (Some 0) (b ∷ bs)
