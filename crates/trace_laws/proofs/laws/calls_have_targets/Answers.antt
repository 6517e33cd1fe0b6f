use Rattle.trace_laws.proofs.Calls.Targets.{calls_have_targets, others_have_targets, stops_are_low, stops_are_there}
use Rattle.trace_laws.proofs.laws.calls_have_targets.Goals as goal

pub returns-clause-targets : goal.returns-clause-targets
returns-clause-targets c = calls_have_targets

pub returns-clause-others : goal.returns-clause-others
returns-clause-others c = others_have_targets

pub returns-clause-stops : goal.returns-clause-stops
returns-clause-stops c = stops_are_low

pub returns-clause-numbers : goal.returns-clause-numbers
returns-clause-numbers c = stops_are_there
