use Rattle.smp_call_steps.proofs.ReachedLaws.{reached_in_one_place, reached_run_once, reached_run_in_order, reached_run_equal_queued}
use Rattle.smp_call_steps.proofs.ReachedLaws.{reached_placed, reached_hold, reached_tallied, reached_noticed}
use Rattle.smp_call_steps.proofs.laws.reached_calls_keep_laws.Goals as goal

pub returns-clause-place : goal.returns-clause-place
returns-clause-place c = reached_in_one_place

pub returns-clause-lists : goal.returns-clause-lists
returns-clause-lists c = reached_placed

pub returns-clause-held : goal.returns-clause-held
returns-clause-held c = reached_hold

pub returns-clause-once : goal.returns-clause-once
returns-clause-once c = reached_run_once

pub returns-clause-order : goal.returns-clause-order
returns-clause-order c = reached_run_in_order

pub returns-clause-drained : goal.returns-clause-drained
returns-clause-drained c = reached_run_equal_queued

pub returns-clause-tally : goal.returns-clause-tally
returns-clause-tally c = reached_tallied

pub returns-clause-interrupt : goal.returns-clause-interrupt
returns-clause-interrupt c = reached_noticed
