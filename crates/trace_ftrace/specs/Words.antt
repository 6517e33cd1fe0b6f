-- The words of a line, and the parts of a word.
use Rattle.std.specs.Prelude.{ℕ, ◌-◌, nat_lt, ◌==◌, ◌&&◌, if◌then◌else◌, List, [], ◌∷◌, length, take}
use Rattle.std.specs.Prelude.{slice_index_or, Option, Some, None}

-- the fields that are not empty
abbrev pub words_of : List (List ℕ) → List (List ℕ)
words_of [] = []
words_of ([] ∷ fs) = words_of fs
words_of ((b ∷ bs) ∷ fs) = (b ∷ bs) ∷ words_of fs

-- what is in front of a text's last byte, where that is this mark
unfoldable pub front_of : ℕ → List ℕ → Option (List ℕ)
front_of mark text =
    if nat_lt 0 (length text) && slice_index_or text (length text - 1) 0 == mark then Some (take (length text - 1) text) else None

-- the first two of these, where there are two
abbrev pub two_of : List (List ℕ) → Option (List ℕ × List ℕ)
two_of [] = None
two_of (f ∷ []) = None
two_of (f ∷ g ∷ fs) = Some (f, g)
