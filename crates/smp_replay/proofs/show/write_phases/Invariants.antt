use Rattle.std.proofs.Common.{◌≡◌, ◌++◌, string_bytes}
use Rattle.smp_replay.specs.Showing.{phases_below}
use Rattle.smp_replay.proofs.show.write_phases.Given as goal

abbrev pub invariant-loop-slot : goal.invariant-loop-slot
invariant-loop-slot g l = string_bytes l.out ≡ string_bytes l.initial.out ++ phases_below l.core l.slot
