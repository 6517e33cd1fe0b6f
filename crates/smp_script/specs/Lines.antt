-- The lines of a text, and the fields of a line.
use Rattle.std.specs.Prelude.{ℕ, ◌<◌, ◌^◌, length, Bool, true, false, ◌==◌, if◌then◌else◌, List, [], ◌∷◌}
use Rattle.std.specs.List.{AllByRecursion}

-- a byte in front of the first of the texts
abbrev pub onto_first : ℕ → List (List ℕ) → List (List ℕ)
onto_first b [] = (b ∷ []) ∷ []
onto_first b (t ∷ ts) = (b ∷ t) ∷ ts

-- the texts between these bytes, one at least
abbrev pub parts_of : ℕ → List ℕ → List (List ℕ)
parts_of mark [] = [] ∷ []
parts_of mark (b ∷ bs) = if b == mark then [] ∷ parts_of mark bs else onto_first b (parts_of mark bs)

-- the texts between the spaces
abbrev pub fields_of : List ℕ → List (List ℕ)
fields_of text = parts_of 32 text

-- a line, and whether a line feed ends it
pub record Line : Type 0 where
  pub text : List ℕ
  pub ended : Bool

-- a byte in front of the first of the lines
abbrev pub onto_line : ℕ → List Line → List Line
onto_line b [] = record { text = b ∷ []; ended = false } ∷ []
onto_line b (l ∷ ls) = record { text = b ∷ l.text; ended = l.ended } ∷ ls

-- the lines of a text: a line feed ends each but perhaps the last
abbrev pub lines_of : List ℕ → List Line
lines_of [] = []
lines_of (b ∷ bs) = if b == 10 then record { text = []; ended = true } ∷ lines_of bs else onto_line b (lines_of bs)

-- each of these texts has a length of 32 bits
abbrev pub AreShort : List (List ℕ) → Type 0
AreShort texts = AllByRecursion (λ t. length t < 2 ^ 32) texts
