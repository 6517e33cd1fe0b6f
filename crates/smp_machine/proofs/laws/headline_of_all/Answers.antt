use Rattle.std.proofs.Common.{subst}
use Rattle.smp_call_steps.proofs.ReachedLaws.{reached_in_one_place, reached_run_once, reached_run_in_order, reached_run_equal_queued}
use Rattle.smp_stop_steps.specs.Threads.Known.{setup_in}
use Rattle.smp_stop_steps.proofs.Promises.Headline.{disabled_while, lawful_while}
use Rattle.smp_stop_steps.proofs.Promises.StopLaws.{keeps_laws}
use Rattle.smp_queue.specs.Together.{CrowdValue as CallCrowdValue, AreAllTogether as CallsAllTogether, values as calls_in}
use Rattle.smp_queue.proofs.Together.{run_all}
use Rattle.smp_multi.specs.Together.{CrowdValue as StopCrowdValue, AreAllTogether as StopsAllTogether, values as stops_in}
use Rattle.smp_multi.proofs.Together.{all_in_step, all_wait_for}
use Rattle.smp_machine.specs.Crowds.{calls_of, stops_of, in_order}
use Rattle.smp_machine.proofs.Headline.{all_have_calls}
use Rattle.smp_machine.proofs.Meetings.{own_all, inside_all, irq_all}
use Rattle.smp_machine.proofs.laws.headline_of_all.Goals as goal

pub returns-clause-shown : goal.returns-clause-shown
returns-clause-shown g c =
    subst (λ (v : CallCrowdValue). CallsAllTogether (in_order (calls_in v.cpus) (calls_of c.args.cpus.now))) c.crowd-calls.ensures c.meet.ensures.calls

pub returns-clause-calls : goal.returns-clause-calls
returns-clause-calls g c = all_have_calls _
    (subst (λ (v : CallCrowdValue). CallsAllTogether (in_order (calls_in v.cpus) (calls_of c.args.cpus.now))) c.crowd-calls.ensures c.meet.ensures.calls)

pub returns-clause-stops : goal.returns-clause-stops
returns-clause-stops g c =
    subst (λ (v : StopCrowdValue). StopsAllTogether (in_order (stops_in v.cpus) (stops_of c.args.cpus.now))) c.crowd-stops.ensures c.meet.ensures.stops

pub returns-clause-own : goal.returns-clause-own
returns-clause-own g c s = own_all _ s

pub returns-clause-inside : goal.returns-clause-inside
returns-clause-inside g c s = inside_all _ s

pub returns-clause-irq : goal.returns-clause-irq
returns-clause-irq g c s = irq_all _ s

pub returns-clause-runs : goal.returns-clause-runs
returns-clause-runs g c = run_all _
    (subst (λ (v : CallCrowdValue). CallsAllTogether (in_order (calls_in v.cpus) (calls_of c.args.cpus.now))) c.crowd-calls.ensures c.meet.ensures.calls)

pub returns-clause-step : goal.returns-clause-step
returns-clause-step g c = all_in_step _
    (subst (λ (v : StopCrowdValue). StopsAllTogether (in_order (stops_in v.cpus) (stops_of c.args.cpus.now))) c.crowd-stops.ensures c.meet.ensures.stops)

pub returns-clause-waits : goal.returns-clause-waits
returns-clause-waits g c = all_wait_for _
    (subst (λ (v : StopCrowdValue). StopsAllTogether (in_order (stops_in v.cpus) (stops_of c.args.cpus.now))) c.crowd-stops.ensures c.meet.ensures.stops)

pub returns-clause-place : goal.returns-clause-place
returns-clause-place g c s = reached_in_one_place s.now.calls s.now.at s.now.reached

pub returns-clause-once : goal.returns-clause-once
returns-clause-once g c s = reached_run_once s.now.calls s.now.at s.now.reached

pub returns-clause-order : goal.returns-clause-order
returns-clause-order g c s = reached_run_in_order s.now.calls s.now.at s.now.reached

pub returns-clause-function : goal.returns-clause-function
returns-clause-function g c s = disabled_while (keeps_laws (setup_in s.setting) s.now.stops s.now.at s.now.seat s.now.source s.now.shown)

pub returns-clause-lawful : goal.returns-clause-lawful
returns-clause-lawful g c s = lawful_while (keeps_laws (setup_in s.setting) s.now.stops s.now.at s.now.seat s.now.source s.now.shown)

pub returns-clause-drained : goal.returns-clause-drained
returns-clause-drained g c s = reached_run_equal_queued s.now.calls s.now.at s.now.reached
