-- The front lines of a text that goes with a script or an exploration.
use Rattle.std.specs.Prelude.{ℕ, Bool, if◌then◌else◌, List, [], ◌∷◌, ◌++◌, drop}
use Rattle.smp_script.specs.Lines.{Line}

-- the first of these lines with its line feed, if there is one
abbrev pub first_text : List Line → List ℕ
first_text [] = []
first_text (l ∷ ls) = l.text ++ 10 ∷ []

-- this title, and the second of these lines, or the second and the third
abbrev pub front_with : List ℕ → Bool → List Line → List ℕ
front_with title has_labels lines = title ++ first_text (drop 1 lines) ++ (if has_labels then first_text (drop 2 lines) else [])
