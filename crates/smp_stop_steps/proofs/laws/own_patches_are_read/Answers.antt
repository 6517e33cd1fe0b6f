use Rattle.smp_stop_steps.proofs.Steps.Nudging.{own_patch_is_read}
use Rattle.smp_stop_steps.proofs.laws.own_patches_are_read.Goals as goal

pub returns : goal.returns
returns c me work kind = own_patch_is_read me work kind
