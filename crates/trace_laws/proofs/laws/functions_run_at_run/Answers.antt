use Rattle.trace_laws.proofs.Stops.AtRun.{functions_run_at_run, patches_store_at_run}
use Rattle.trace_laws.proofs.laws.functions_run_at_run.Goals as goal

pub returns-clause-run : goal.returns-clause-run
returns-clause-run c = functions_run_at_run

pub returns-clause-store : goal.returns-clause-store
returns-clause-store c = patches_store_at_run
