use Rattle.std.proofs.Common.{◌≡◌, drop}
use Rattle.std.specs.List.{find}
use Rattle.view.specs.OpenClose.{closed_by}
use Rattle.view.proofs.open_close.closing.Given as goal

abbrev pub invariant-loop-row : goal.invariant-loop-row
invariant-loop-row l = find (λ r. closed_by l.link r.what) (drop l.row-index l.rows) ≡ find (λ r. closed_by l.link r.what) l.rows
