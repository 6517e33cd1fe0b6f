use Rattle.smp_multi.proofs.Together.{in_step, waits_for}
use Rattle.smp_multi.proofs.laws.parts_agree.Goals as goal

pub returns-clause-step : goal.returns-clause-step
returns-clause-step c = in_step

pub returns-clause-waits : goal.returns-clause-waits
returns-clause-waits c = waits_for
