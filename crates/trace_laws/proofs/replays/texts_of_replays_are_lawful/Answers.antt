use Rattle.trace_laws.proofs.ReplayTexts.JudgedReplays.{texts_are_lawful}
use Rattle.trace_laws.proofs.replays.texts_of_replays_are_lawful.Goals as goal

pub returns : goal.returns
returns c = texts_are_lawful
