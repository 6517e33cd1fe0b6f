use Rattle.std.proofs.Common.{refl}
use Rattle.smp_multi.proofs.laws.calls_are_listed.Goals as goal

pub returns : goal.returns
returns c stop v cpu = (refl, refl, refl, refl)
