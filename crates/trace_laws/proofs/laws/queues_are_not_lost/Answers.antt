use Rattle.trace_laws.proofs.Calls.LostQueues.{interrupts_are_told, queues_are_not_lost}
use Rattle.trace_laws.proofs.Calls.OwedInterrupts.{interrupts_are_owed}
use Rattle.trace_laws.proofs.laws.queues_are_not_lost.Goals as goal

pub returns-clause-queues : goal.returns-clause-queues
returns-clause-queues c = queues_are_not_lost

pub returns-clause-interrupts : goal.returns-clause-interrupts
returns-clause-interrupts c = interrupts_are_told

pub returns-clause-owed : goal.returns-clause-owed
returns-clause-owed c = interrupts_are_owed
