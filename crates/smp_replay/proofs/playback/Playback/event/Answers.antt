use Rattle.std.proofs.Common.{Ok, Err, string_bytes}
use Rattle.smp_replay.proofs.Progresses.{after_event}
use Rattle.smp_replay.proofs.playback.Playback.event.Goals as goal

pub returns-in_ok-write_event-in-Ok-clause-made : goal.returns-in_ok-write_event-in-Ok-clause-made
returns-in_ok-write_event-in-Ok-clause-made g c =
    let r = c.args.self.now in
    rw c.in_ok-write_event-in-Ok.ensures
    (after_event r.core c.apply.new.self r.position (string_bytes r.text) c.args.event (Ok c.in-Ok.seen) c.in-Ok.ensures.answer c.in-Ok.ensures.core)

pub returns-in_ok-write_stopped-in-Err-clause-made : goal.returns-in_ok-write_stopped-in-Err-clause-made
returns-in_ok-write_stopped-in-Err-clause-made g c =
    let r = c.args.self.now in
    rw c.in_ok-write_stopped-in-Err.ensures
    (after_event r.core c.apply.new.self r.position (string_bytes r.text) c.args.event (Err c.in-Err.error) c.in-Err.ensures.answer c.in-Err.ensures.core)
