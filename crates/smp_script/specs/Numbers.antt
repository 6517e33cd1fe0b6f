-- Decimal numbers.
use Rattle.std.specs.Prelude.{ℕ, zero, suc, ℤ, pos, negsuc, ◌+◌, ◌-◌, ◌*◌, Bool, false, not, ◌&&◌, ◌||◌, ◌==◌, nat_le, if◌then◌else◌, List, [], ◌∷◌, length}
use Rattle.std.specs.Prelude.{Result, Ok, Err}
use Rattle.std.specs.List.{list_all}
use Rattle.smp_mask.specs.declared.error.Cause.{Cause}
use Rattle.smp_mask.specs.declared.error.Cause.TheVariants.{Number, Range}
use Rattle.smp_words.specs.FirstFault.{◌>>=◌}

abbrev pub is_digit : ℕ → Bool
is_digit b = nat_le 48 b && nat_le b 57

-- the value of digits that follow n
abbrev pub value_after : ℕ → List ℕ → ℕ
value_after n [] = n
value_after n (b ∷ bs) = value_after (n * 10 + (b - 48)) bs

-- some digits, the first of which is not 0 unless it is alone
abbrev pub is_decimal : List ℕ → Bool
is_decimal [] = false
is_decimal (b ∷ bs) = list_all is_digit (b ∷ bs) && (not (b == 48) || (length bs == 0))

-- the number that a text is in decimal, where it is from low to high
abbrev pub number_in : ℕ → ℕ → List ℕ → Result ℕ Cause
number_in low high text =
    if is_decimal text then (if nat_le low (value_after 0 text) && nat_le (value_after 0 text) high then Ok (value_after 0 text) else Err Range)
    else Err Number

-- a number below 0, by how far; nothing is below 0 by 0
abbrev pub minus : ℕ → Result ℤ Cause
minus zero = Err Number
minus (suc n) = Ok (negsuc n)

-- what comes after a minus sign
abbrev pub negative_of : List ℕ → Result ℤ Cause
negative_of digits = number_in 0 2147483648 digits >>= minus

-- the number of 32 bits that a text is in decimal, with a minus sign where it is below 0
abbrev pub signed_of : List ℕ → Result ℤ Cause
signed_of [] = Err Number
signed_of (b ∷ bs) = if b == 45 then negative_of bs else (number_in 0 2147483647 (b ∷ bs) >>= λ n. Ok (pos n))
