use Rattle.smp_stop_steps.specs.Threads.Known.{setup_in}
use Rattle.smp_call_steps.proofs.ReachedLaws.{reached_in_one_place, reached_run_once, reached_run_in_order, reached_run_equal_queued}
use Rattle.smp_stop_steps.proofs.Promises.Headline.{disabled_while, lawful_while}
use Rattle.smp_stop_steps.proofs.Promises.StopLaws.{keeps_laws}
use Rattle.smp_machine.proofs.Headline.{has_calls, has_stops, own_calls, own_inside, own_irq}
use Rattle.smp_machine.proofs.laws.headline.Goals as goal

pub returns-clause-calls : goal.returns-clause-calls
returns-clause-calls g c = has_calls _ c.is_shown.ensures.calls

pub returns-clause-stops : goal.returns-clause-stops
returns-clause-stops g c = has_stops _ c.is_shown.ensures.stops

pub returns-clause-own : goal.returns-clause-own
returns-clause-own g c = own_calls _

pub returns-clause-inside : goal.returns-clause-inside
returns-clause-inside g c = own_inside _

pub returns-clause-irq : goal.returns-clause-irq
returns-clause-irq g c = own_irq _

pub returns-clause-place : goal.returns-clause-place
returns-clause-place g c s = reached_in_one_place s.now.calls s.now.at s.now.reached

pub returns-clause-once : goal.returns-clause-once
returns-clause-once g c s = reached_run_once s.now.calls s.now.at s.now.reached

pub returns-clause-order : goal.returns-clause-order
returns-clause-order g c s = reached_run_in_order s.now.calls s.now.at s.now.reached

pub returns-clause-function : goal.returns-clause-function
returns-clause-function g c s = disabled_while (keeps_laws (setup_in c.args.cpu.now.stops.setting) s.now.stops s.now.at s.now.seat s.now.source s.now.shown)

pub returns-clause-lawful : goal.returns-clause-lawful
returns-clause-lawful g c s = lawful_while (keeps_laws (setup_in c.args.cpu.now.stops.setting) s.now.stops s.now.at s.now.seat s.now.source s.now.shown)

pub returns-clause-drained : goal.returns-clause-drained
returns-clause-drained g c s = reached_run_equal_queued s.now.calls s.now.at s.now.reached
