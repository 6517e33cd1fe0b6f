-- What a page has of the bytes of a text: none that could end its data, and none that can't be printed.
use Rattle.std.specs.Prelude.{ℕ, ◌+◌, ◌/◌, ◌%◌, Bool, not, ◌==◌, ◌&&◌, ◌||◌, nat_le, if◌then◌else◌, List, [], ◌∷◌}
use Rattle.std.specs.List.{flat_map}

-- a byte that a page has as it is: a line feed, or one that can be printed and is neither `<` nor a backslash
abbrev pub is_plain : ℕ → Bool
is_plain b = (b == 10) || ((nat_le 32 b && nat_le b 126) && not ((b == 60) || (b == 92)))

-- a backslash and the three digits of a byte's number
abbrev pub numbered : ℕ → List ℕ
numbered b = 92 ∷ (48 + b / 100) ∷ (48 + b / 10 % 10) ∷ (48 + b % 10) ∷ []

abbrev pub byte_text : ℕ → List ℕ
byte_text b = if is_plain b then b ∷ [] else numbered b

-- what a page has of these bytes
abbrev pub escaped : List ℕ → List ℕ
escaped bytes = flat_map byte_text bytes
