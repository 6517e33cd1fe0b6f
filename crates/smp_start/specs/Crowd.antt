-- Seats of one table, each with the name under which another one stands in its place, its number and what it has.
use Rattle.std.specs.Prelude.{◌≡◌, ℕ, List, [], ◌∷◌}
use mathlib.Core.Option.{some}
use lib.ListN.{get_elem?}
use base.Stored.{Gv}
use base.Fml.{Fml, ftrue, fsep}
use denote.RattleType.{RattleType}
use Rattle.atomic_table.specs.Table.{State, Me}
use Rattle.atomic_table.specs.Seated.{TableId, mine, roster}

-- what such seats own together, each with the roster of the one that stands in its place
abbrev pub crowd_owns : (R : RattleType) {V : Type 0} → (V → Gv) → TableId → List (TableId × (ℕ × Me R.Denot V)) → Fml
crowd_owns R c z [] = ftrue
crowd_owns R c z (m ∷ ms) = fsep (fsep (mine R c z m.1.0 m.1.1) (roster c m.0.views_name 0 (m.1.1.0 ∷ []))) (crowd_owns R c z ms)

-- in this state each of these seats has the view that it has here
abbrev pub IsMoment : {S V : Type 0} → State S V → List (TableId × (ℕ × Me S V)) → Type 0
IsMoment s [] = Unit {0}
IsMoment s (m ∷ ms) = (get_elem? s.views m.1.0 ≡ some m.1.1.0) × IsMoment s ms

-- under this name another one stands in the place of the first
abbrev pub StandsFirst : {X : Type 0} → TableId → List (TableId × X) → Type 0
StandsFirst t [] = ⊥
StandsFirst t (m ∷ ms) = m.0 ≡ t
