use Rattle.smp_core.proofs.Whole.{start_whole, step_whole}
use Rattle.smp_core.proofs.laws.cores_stay_whole.Goals as goal

pub returns-clause-step : goal.returns-clause-step
returns-clause-step c core cpu s w made = step_whole core cpu w s made

pub returns-clause-start : goal.returns-clause-start
returns-clause-start c core cpu command w fits allowed = start_whole core cpu w command fits allowed
