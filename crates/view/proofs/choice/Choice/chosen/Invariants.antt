use Rattle.std.proofs.Common.{◌≡◌, ◌++◌, drop}
use Rattle.std.specs.List.{filter}
use Rattle.view.specs.Choice.{is_chosen}
use Rattle.view.proofs.choice.Choice.chosen.Given as goal

abbrev pub invariant-loop-row : goal.invariant-loop-row
invariant-loop-row g l = l.found.items ++ filter (is_chosen l.self) (drop l.row-index l.rows) ≡ filter (is_chosen l.self) l.rows
