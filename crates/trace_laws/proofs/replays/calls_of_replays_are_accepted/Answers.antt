use Rattle.trace_laws.proofs.ReplayCalls.AcceptedCalls.{calls_of_replays_are_accepted as accepted}
use Rattle.trace_laws.proofs.replays.calls_of_replays_are_accepted.Goals as goal

pub returns : goal.returns
returns c = accepted
