-- What contracts see of seats at a table whose rule says what each step tells.
use Rattle.std.specs.Prelude.{ℕ, List}
use Rattle.atomic_table.specs.Table.{Me}
use Rattle.atomic_table.specs.Seated.{TableId}

-- a seat: its table, its number there, and what it knows
pub record ToldValue (V : Type 0) : Type 0 where
  pub table_id : TableId
  pub id : ℕ
  pub me : Me (Unit {0}) V

-- seats of one table that are out of their places, each with the name under which another one stands there
pub record CrowdValue (V : Type 0) : Type 0 where
  pub table_id : TableId
  pub seats : List (TableId × (ℕ × Me (Unit {0}) V))
