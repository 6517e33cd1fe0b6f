use Rattle.smp_call_steps.proofs.Broken.{no_two_queues, not_queued_twice, not_held_elsewhere, none_lost, none_twice, none_unsent, not_begun_first}
use Rattle.smp_call_steps.proofs.Broken.{not_joined_first, none_unlocked, none_counted}
use Rattle.smp_call_steps.proofs.laws.broken_calls_are_not_reached.Goals as goal

pub returns-clause-place : goal.returns-clause-place
returns-clause-place c = (no_two_queues, not_queued_twice, not_held_elsewhere, none_unlocked)

pub returns-clause-once : goal.returns-clause-once
returns-clause-once c = (none_lost, none_twice, none_unsent)

pub returns-clause-order : goal.returns-clause-order
returns-clause-order c = (not_begun_first, not_joined_first)

pub returns-clause-drained : goal.returns-clause-drained
returns-clause-drained c = none_counted
