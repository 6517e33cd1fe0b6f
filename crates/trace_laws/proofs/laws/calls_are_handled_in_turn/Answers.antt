use Rattle.trace_laws.proofs.Calls.HandledCalls.{call_acts, calls_are_done}
use Rattle.trace_laws.proofs.laws.calls_are_handled_in_turn.Goals as goal

pub returns-clause-acts : goal.returns-clause-acts
returns-clause-acts c = call_acts

pub returns-clause-quiet : goal.returns-clause-quiet
returns-clause-quiet c = calls_are_done
