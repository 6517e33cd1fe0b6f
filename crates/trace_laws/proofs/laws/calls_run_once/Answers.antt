use Rattle.trace_laws.proofs.Calls.ShownByTraces.{begin_once, end_once}
use Rattle.trace_laws.proofs.laws.calls_run_once.Goals as goal

pub returns-clause-begin : goal.returns-clause-begin
returns-clause-begin c = begin_once

pub returns-clause-end : goal.returns-clause-end
returns-clause-end c = end_once
