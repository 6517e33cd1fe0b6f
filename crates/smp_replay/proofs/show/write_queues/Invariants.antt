use Rattle.std.proofs.Common.{◌≡◌, ◌++◌, string_bytes}
use Rattle.std.specs.List.{flat_map}
use Rattle.smp_replay.specs.Showing.{queue_text}
use Rattle.smp_replay.proofs.show.write_queues.Given as goal

abbrev pub invariant-loop-cpu : goal.invariant-loop-cpu
invariant-loop-cpu g l = string_bytes l.out ≡ string_bytes l.initial.out ++ flat_map (queue_text l.core) l.yielded
