use Rattle.trace_laws.proofs.Calls.Drained.{drained_equals}
use Rattle.trace_laws.proofs.Calls.ShownByTraces.{counts_are}
use Rattle.trace_laws.proofs.laws.drained_runs_equal_queued.Goals as goal

pub returns-clause-counts : goal.returns-clause-counts
returns-clause-counts c = counts_are

pub returns-clause-drained : goal.returns-clause-drained
returns-clause-drained c = drained_equals
