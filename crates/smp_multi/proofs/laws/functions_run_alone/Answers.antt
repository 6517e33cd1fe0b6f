use Rattle.smp_multi.proofs.Turning.{runs_alone_there}
use Rattle.smp_multi.proofs.laws.functions_run_alone.Goals as goal

pub returns : goal.returns
returns c = runs_alone_there
