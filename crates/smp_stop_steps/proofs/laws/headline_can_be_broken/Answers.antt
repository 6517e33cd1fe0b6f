use Rattle.smp_stop_steps.proofs.Promises.Broken.{outside, inactive, early, interrupted, patch_interrupted, turned}
use Rattle.smp_stop_steps.proofs.laws.headline_can_be_broken.Goals as goal

pub returns-clause-function : goal.returns-clause-function
returns-clause-function c = (outside, inactive, early, interrupted, patch_interrupted)

pub returns-clause-lawful : goal.returns-clause-lawful
returns-clause-lawful c = turned
