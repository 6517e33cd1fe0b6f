use Rattle.trace_laws.proofs.ReplayTexts.ReadBack.{texts_read_back}
use Rattle.trace_laws.proofs.replays.texts_of_events_read_back.Goals as goal

pub returns : goal.returns
returns c = texts_read_back
