use Rattle.smp_replay.proofs.Showings.{phases_more, no_phases}
use Rattle.smp_replay.proofs.show.write_phases.Goals as goal

pub loop-slot-init : goal.loop-slot-init
loop-slot-init g c = no_phases _ _

pub loop-slot-preserved : goal.loop-slot-preserved
loop-slot-preserved g c = phases_more _ _ _ _ _ c.loop-slot.invariant c.in_ok-write_if_begun.ensures
