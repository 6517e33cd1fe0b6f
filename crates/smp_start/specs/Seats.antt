-- When a seat's view may change with no step.
use Rattle.std.specs.Prelude.{◌≡◌, ℕ, slice_set}
use mathlib.Core.Option.{some}
use lib.ListN.{get_elem?}
use Rattle.atomic_table.specs.Table.{State}

-- each state of a table that keeps the rule, and in which this seat has one view, keeps it with the other one
abbrev pub StaysRuled : {S V : Type 0} → (State S V → Type 0) → ℕ → V → V → Type 0
StaysRuled {S = S} {V = V} holds id v u = (s : State S V) → holds s → get_elem? s.views id ≡ some v
    → holds record { words = s.words; homes = s.homes; views = slice_set s.views id u }
