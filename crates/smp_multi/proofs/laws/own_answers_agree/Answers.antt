use Rattle.smp_multi.proofs.Kept as kept
use Rattle.smp_multi.proofs.laws.own_answers_agree.Goals as goal

pub returns : goal.returns
returns c = kept.own_answers_agree
