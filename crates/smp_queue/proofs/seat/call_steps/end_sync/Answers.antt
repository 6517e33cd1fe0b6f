use Rattle.std.proofs.Common.{◌∙◌}
use Rattle.smp_call_steps.proofs.Knows.Handling.{lives_stands, ended_sync_is}
use Rattle.smp_queue.specs.handle
use Rattle.smp_queue.proofs.seat.call_steps.end_sync.Goals as goal

pub returns-clause-known : goal.returns-clause-known
returns-clause-known g c =
    let at = c.requires.at in
    let k = lives_stands at.lives (handle.EndSync c.args.ran.place.walk c.args.ran.place.call c.args.ran.place.next) at.stage_is in
    c.store_in_call.ensures.known ∙ ended_sync_is _ c.args.ran.place.walk c.args.ran.place.call c.args.ran.place.next at.stage_is k.1.running_is
