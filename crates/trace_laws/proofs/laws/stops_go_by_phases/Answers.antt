use Rattle.trace_laws.proofs.Stops.Completes.{completes_are_through}
use Rattle.trace_laws.proofs.Stops.OpenedWorks.{works_are_of_online}
use Rattle.trace_laws.proofs.Stops.PhasesInTurn.{acks_are_in_turn, offs_are_at_prepare, ons_are_at_exit, raises_are_in_turn}
use Rattle.trace_laws.proofs.laws.stops_go_by_phases.Goals as goal

pub returns-clause-works : goal.returns-clause-works
returns-clause-works c = works_are_of_online

pub returns-clause-acks : goal.returns-clause-acks
returns-clause-acks c = acks_are_in_turn

pub returns-clause-raises : goal.returns-clause-raises
returns-clause-raises c = raises_are_in_turn

pub returns-clause-completes : goal.returns-clause-completes
returns-clause-completes c = completes_are_through

pub returns-clause-switches : goal.returns-clause-switches
returns-clause-switches c = (offs_are_at_prepare, ons_are_at_exit)
