use Rattle.smp_stop_steps.proofs.Steps.Nudging.{patch_answers}
use Rattle.smp_stop_steps.proofs.laws.patches_answer.Goals as goal

pub returns : goal.returns
returns c u p at seat source h control me s v answer ran e work count made rest is = patch_answers u p at seat source h control me s v answer ran e work
    count made rest is
