use Rattle.std.proofs.Common.{◌≡◌, ◌++◌, string_bytes}
use Rattle.trace_page.specs.Pictures.{rows_text}
use Rattle.trace_page.proofs.picture.write_rows.Given as goal

abbrev pub invariant-loop-row : goal.invariant-loop-row
invariant-loop-row g l = string_bytes l.out ≡ string_bytes l.initial.out ++ rows_text l.pen.grid.low l.pen.grid.lanes.now l.row
