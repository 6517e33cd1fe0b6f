use Rattle.trace_laws.proofs.Records.EventPlaces.{in_one_place}
use Rattle.trace_laws.proofs.Records.RecordTurns.{records_take_turns}
use Rattle.trace_laws.proofs.laws.records_are_in_one_place.Goals as goal

pub returns-clause-turns : goal.returns-clause-turns
returns-clause-turns c = records_take_turns

pub returns-clause-place : goal.returns-clause-place
returns-clause-place c = in_one_place
