-- What a second reader gives.
use Rattle.std.specs.Prelude.{◌≡◌, ◌⊎◌, ℕ, List, Option}
use Rattle.std.specs.Io.KnownBytes.{Consumes, IsAtEnd}

-- the lines that are shown are those of the text that is judged, or of what a second reader gave up to its end
abbrev pub GivesLines : List ℕ → Option (List ℕ) → Option (List ℕ) → List ℕ → Type 0
GivesLines text before after shown = (shown ≡ text) ⊎ (Consumes before after shown × IsAtEnd after)
