use Rattle.std.proofs.Common.{◌≡◌, ◌++◌, length, string_bytes}
use Rattle.std.specs.List.{flat_map}
use Rattle.trace_ftrace.specs.Print.{event_lines}
use Rattle.trace_ftrace.proofs.print.write_all.Given as goal

abbrev pub invariant-loop-rest : goal.invariant-loop-rest
invariant-loop-rest g l = string_bytes l.out ++ flat_map event_lines l.rest ≡ string_bytes l.initial.out ++ flat_map event_lines l.fn.told

abbrev pub decreases-loop-rest : goal.decreases-loop-rest
decreases-loop-rest g l = length l.rest
