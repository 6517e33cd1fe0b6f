use Rattle.trace_laws.proofs.Calls.Interrupts.{interrupts_take_turns, sends_have_targets, switches_take_turns}
use Rattle.trace_laws.proofs.laws.interrupts_are_taken_in_turn.Goals as goal

pub returns-clause-turns : goal.returns-clause-turns
returns-clause-turns c = interrupts_take_turns

pub returns-clause-targets : goal.returns-clause-targets
returns-clause-targets c = sends_have_targets

pub returns-clause-switches : goal.returns-clause-switches
returns-clause-switches c = switches_take_turns
