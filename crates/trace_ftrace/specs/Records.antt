-- The addresses of records, by their numbers.
use Rattle.std.specs.Prelude.{◌≡◌, ℕ, ◌+◌, ◌==◌, if◌then◌else◌, List, [], ◌∷◌, Option, Some, None}

-- the place of an address among these, of which the first has this place
abbrev pub record_place : ℕ → ℕ → List ℕ → Option ℕ
record_place i address [] = None
record_place i address (a ∷ rest) = if a == address then Some i else record_place (i + 1) address rest

-- the number that is found of each address is its place
abbrev pub AreNumbered : (ℕ → Option ℕ) → List ℕ → Type 0
AreNumbered found addresses = (address : ℕ) → found address ≡ record_place 0 address addresses
