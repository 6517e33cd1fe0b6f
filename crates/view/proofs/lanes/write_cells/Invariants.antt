use Rattle.std.proofs.Common.{◌≡◌, ◌++◌, take, string_bytes}
use Rattle.std.specs.List.{flat_map}
use Rattle.view.specs.Cells.{cell_at, table_cell}
use Rattle.view.proofs.lanes.write_cells.Given as goal

abbrev pub invariant-loop-cpu : goal.invariant-loop-cpu
invariant-loop-cpu g l =
    string_bytes l.out ≡ string_bytes l.initial.out ++ flat_map (λ cpu. table_cell (cell_at l.row.cpu l.text cpu) l.layout.column)
    (take l.cpu-index l.layout.cpus.now)
