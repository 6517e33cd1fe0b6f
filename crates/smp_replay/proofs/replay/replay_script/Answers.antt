use Rattle.smp_script.proofs.Transforms.{transformed}
use Rattle.smp_replay.proofs.replay.replay_script.Goals as goal

pub returns-clause-replays : goal.returns-clause-replays
returns-clause-replays g c =
    transformed _ _ _ _ _ _ _ c.in_ok-text.ensures.ok _ _ (rw (← c.as_slice.ensures.value) c.replayed.ensures) c.write_made.ensures.writes
