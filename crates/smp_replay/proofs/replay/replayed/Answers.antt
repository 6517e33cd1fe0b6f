use Rattle.std.proofs.Common.{ap, ◌∙◌}
use Rattle.smp_replay.specs.Replays.{outcome_of}
use Rattle.smp_replay.proofs.replay.replayed.Goals as goal

pub returns : goal.returns
returns g c = record {
  script = c.in_ok-out.ensures.script;
  lawful = c.in_ok-out.ensures.lawful;
  printed = rw c.into_bytes.ensures.value c.in_ok-out.ensures.printed;
  ended = c.ending.ensures ∙ ap outcome_of c.in_ok-out.ensures.ended;
}
