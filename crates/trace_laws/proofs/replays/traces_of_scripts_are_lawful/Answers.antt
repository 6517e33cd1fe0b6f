use Rattle.trace_laws.proofs.ReplayTexts.JudgedScripts.{traces_are_lawful}
use Rattle.trace_laws.proofs.replays.traces_of_scripts_are_lawful.Goals as goal

pub returns : goal.returns
returns c = traces_are_lawful
