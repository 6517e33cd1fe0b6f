use Rattle.smp_call_steps.proofs.Knows.Heads.{heads_tell}
use Rattle.smp_call_steps.proofs.laws.heads_tell.Goals as goal

pub returns : goal.returns
returns c v stage may found queue = heads_tell v stage may found queue
