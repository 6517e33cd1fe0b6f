use Rattle.smp_stop_steps.proofs.State.Patched.{off_while_patched}
use Rattle.smp_stop_steps.proofs.laws.patches_alone.Goals as goal

pub returns : goal.returns
returns c u p at seat source h d work count made rest is me online = off_while_patched u p.now at seat h.present me online d work count made rest is
