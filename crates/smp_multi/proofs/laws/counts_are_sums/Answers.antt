use Rattle.std.proofs.Common.{subst}
use Rattle.smp_multi.specs.LabelLaws.{CountsAreSums}
use Rattle.smp_multi.proofs.LabelLaws.{counts_sums}
use Rattle.smp_multi.proofs.Showing.{rests_ungiven}
use Rattle.smp_multi.proofs.laws.counts_are_sums.Goals as goal

pub returns : goal.returns
returns g c = subst CountsAreSums c.cpu.view_is (counts_sums _ c.cpu.invariant.lives (rests_ungiven _ _ c.cpu.invariant.rests))
