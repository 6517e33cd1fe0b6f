use Rattle.trace_laws.proofs.Stops.OpenStops.{gate_is_of_one, stops_open_once}
use Rattle.trace_laws.proofs.laws.stops_open_once.Goals as goal

pub returns-clause-opens : goal.returns-clause-opens
returns-clause-opens c = stops_open_once

pub returns-clause-gate : goal.returns-clause-gate
returns-clause-gate c = gate_is_of_one
