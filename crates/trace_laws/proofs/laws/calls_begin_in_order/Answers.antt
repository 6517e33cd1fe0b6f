use Rattle.trace_laws.proofs.Calls.ShownByTraces.{begin_in_order}
use Rattle.trace_laws.proofs.laws.calls_begin_in_order.Goals as goal

pub returns : goal.returns
returns c = begin_in_order
