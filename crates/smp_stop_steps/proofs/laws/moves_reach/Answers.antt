use Rattle.smp_stop_steps.proofs.Promises.Reached.{moves_reach}
use Rattle.smp_stop_steps.proofs.laws.moves_reach.Goals as goal

pub returns : goal.returns
returns c p at seat source v h sees on m may q told r = moves_reach p at seat source v h sees on m may q told r
