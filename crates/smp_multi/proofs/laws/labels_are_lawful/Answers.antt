use Rattle.std.proofs.Common.{subst}
use Rattle.smp_multi.specs.LabelLaws.{LabelsAreLawful}
use Rattle.smp_multi.proofs.LabelLaws.{labels_lawful}
use Rattle.smp_multi.proofs.Showing.{rests_ungiven}
use Rattle.smp_multi.proofs.laws.labels_are_lawful.Goals as goal

pub returns : goal.returns
returns g c = subst LabelsAreLawful c.cpu.view_is (labels_lawful _ c.cpu.invariant.lives (rests_ungiven _ _ c.cpu.invariant.rests))
