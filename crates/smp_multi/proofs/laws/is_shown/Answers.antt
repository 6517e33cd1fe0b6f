use Rattle.std.proofs.Common.{subst}
use Rattle.smp_multi.specs.Laws.{StopsAreShown}
use Rattle.smp_multi.proofs.Showing.{is_shown, rests_ungiven}
use Rattle.smp_multi.proofs.laws.is_shown.Goals as goal

pub returns : goal.returns
returns g c = subst StopsAreShown c.cpu.view_is (is_shown _ c.cpu.invariant.lives (rests_ungiven _ _ c.cpu.invariant.rests))
