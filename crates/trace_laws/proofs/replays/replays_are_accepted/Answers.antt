use Rattle.trace_laws.proofs.WholeReplays.AcceptedReplays.{replays_are_accepted as accepted}
use Rattle.trace_laws.proofs.replays.replays_are_accepted.Goals as goal

pub returns : goal.returns
returns c = accepted
