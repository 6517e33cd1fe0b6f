use Rattle.smp_call_steps.proofs.Broken.{two_queues, queued_twice, unlocked, held_elsewhere, one_lost, one_twice, one_unsent, begins_first, joins_first}
use Rattle.smp_call_steps.proofs.Broken.{not_run, not_counted}
use Rattle.smp_call_steps.proofs.laws.headline_can_be_broken.Goals as goal

pub returns-clause-place : goal.returns-clause-place
returns-clause-place c = (two_queues, queued_twice, unlocked, held_elsewhere)

pub returns-clause-once : goal.returns-clause-once
returns-clause-once c = (one_lost, one_twice, one_unsent)

pub returns-clause-order : goal.returns-clause-order
returns-clause-order c = (begins_first, joins_first)

pub returns-clause-drained : goal.returns-clause-drained
returns-clause-drained c = (not_run, not_counted)
