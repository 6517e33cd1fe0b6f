use Rattle.smp_stop_steps.proofs.Steps.Nudging.{edge_is_read}
use Rattle.smp_stop_steps.proofs.laws.edges_are_read.Goals as goal

pub returns : goal.returns
returns c u p at seat source h control me s k up e refused = edge_is_read u p at seat source h control me s k up e refused
