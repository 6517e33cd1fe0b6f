use Rattle.smp_replay.proofs.Showings.{locked_more, none_locked}
use Rattle.smp_replay.proofs.show.write_locked.Goals as goal

pub loop-id-init : goal.loop-id-init
loop-id-init g c = none_locked _ _

pub loop-id-preserved : goal.loop-id-preserved
loop-id-preserved g c = locked_more _ _ _ _ _ c.loop-id.invariant c.in_ok-write_if_locked.ensures
