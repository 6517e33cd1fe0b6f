use Rattle.trace_laws.proofs.Stops.StopResults.{enters_are_called, results_are_of_all}
use Rattle.trace_laws.proofs.laws.stops_give_results.Goals as goal

pub returns-clause-called : goal.returns-clause-called
returns-clause-called c = enters_are_called

pub returns-clause-results : goal.returns-clause-results
returns-clause-results c = results_are_of_all
