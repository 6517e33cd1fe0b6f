use Rattle.std.proofs.Common.{◌≡◌, ◌++◌, take, string_bytes}
use Rattle.std.specs.List.{flat_map}
use Rattle.view.specs.NarrowLanes.{digit_of}
use Rattle.view.proofs.narrow_lanes.write_digits.Given as goal

abbrev pub invariant-loop-cpu : goal.invariant-loop-cpu
invariant-loop-cpu g l = string_bytes l.out ≡ string_bytes l.initial.out ++ flat_map digit_of (take l.cpu-index l.cpus)
