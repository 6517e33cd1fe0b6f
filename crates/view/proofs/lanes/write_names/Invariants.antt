use Rattle.std.proofs.Common.{◌≡◌, ◌++◌, take, string_bytes}
use Rattle.std.specs.List.{flat_map}
use Rattle.view.specs.Cells.{head_cell}
use Rattle.view.proofs.lanes.write_names.Given as goal

abbrev pub invariant-loop-cpu : goal.invariant-loop-cpu
invariant-loop-cpu g l =
    string_bytes l.out ≡ string_bytes l.initial.out ++ flat_map (head_cell l.layout.column) (take l.cpu-index l.layout.cpus.now)
