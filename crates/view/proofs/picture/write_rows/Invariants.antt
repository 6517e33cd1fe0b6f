use Rattle.std.proofs.Common.{◌≤◌, ◌-◌, ◌+◌}
use Rattle.view.proofs.picture.write_rows.Given as goal

abbrev pub invariant-rows : goal.invariant-rows
invariant-rows g l = l.last ≤ 100000

abbrev pub decreases-rows : goal.decreases-rows
decreases-rows g l = l.last + 1 - l.first
