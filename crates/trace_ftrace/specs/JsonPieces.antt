-- What entries of the trace-event format are made of: times, and names between quotes.
use Rattle.std.specs.Prelude.{ℕ, ◌+◌, ◌/◌, ◌%◌, Bool, false, not, ◌==◌, ◌&&◌, ◌||◌, nat_le, nat_lt, if◌then◌else◌, List, [], ◌∷◌, ◌++◌, codes}
use Rattle.std.specs.Fmt.{decimal, digits}
use Rattle.std.specs.List.{flat_map}

-- a time in microseconds, with three digits behind the point
unfoldable pub time_text : ℕ → List ℕ
time_text time = decimal (time / 1000) ++ codes "." ++ (48 + time / 100 % 10) ∷ (48 + time / 10 % 10) ∷ (48 + time % 10) ∷ []

-- a byte of a name: by its number where it can't be printed, or is a quote or a backslash
abbrev pub is_plain : ℕ → Bool
is_plain b = (nat_le 32 b && nat_le b 126) && not ((b == 34) || (b == 92))

abbrev pub hex_digit : ℕ → ℕ
hex_digit n = if nat_lt n 10 then 48 + n else 87 + n

abbrev pub byte_text : ℕ → List ℕ
byte_text b = if is_plain b then b ∷ [] else codes "\\u00" ++ hex_digit (b / 16) ∷ hex_digit (b % 16) ∷ []

abbrev pub quoted : List ℕ → List ℕ
quoted name = flat_map byte_text name

-- a number between two texts
unfoldable pub between : List ℕ → ℕ → List ℕ → List ℕ
between front n back = front ++ decimal n ++ back

-- a number of the kernel, and what is behind it
unfoldable pub hex_text : ℕ → List ℕ → List ℕ
hex_text n back = digits 16 false n ++ back
