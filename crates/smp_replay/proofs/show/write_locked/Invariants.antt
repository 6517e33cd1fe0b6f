use Rattle.std.proofs.Common.{◌≡◌, ◌++◌, string_bytes}
use Rattle.smp_replay.specs.Text.{list_text}
use Rattle.smp_replay.specs.Showing.{locked_below}
use Rattle.smp_replay.proofs.show.write_locked.Given as goal

abbrev pub invariant-loop-id : goal.invariant-loop-id
invariant-loop-id g l = string_bytes l.out ≡ string_bytes l.initial.out ++ list_text (locked_below l.core l.id)
