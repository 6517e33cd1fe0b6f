use Rattle.trace_laws.proofs.Calls.AcceptedTexts.{accepted_are_traces}
use Rattle.trace_laws.proofs.laws.accepted_texts_are_traces.Goals as goal

pub returns : goal.returns
returns c = accepted_are_traces
