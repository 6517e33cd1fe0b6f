use Rattle.smp_core.proofs.Replays.{GoesOn}
use Rattle.smp_core.proofs.events.replay.Given as goal

abbrev pub invariant-loop-position : goal.invariant-loop-position
invariant-loop-position g l = GoesOn l.fn.core l.core l.events l.position l.seen.items
