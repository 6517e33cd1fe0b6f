use Rattle.smp_stop_steps.proofs.Steps.Callings.{answer_replaced}
use Rattle.smp_stop_steps.proofs.laws.answers_may_be_replaced.Goals as goal

pub returns : goal.returns
returns c u p at seat source h me s work acked looked turn answer is = answer_replaced u p at seat source h me s work acked looked turn answer is
