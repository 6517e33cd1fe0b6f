use Rattle.smp_multi.proofs.Answered.{loads_keep, stores_keep, exchanges_keep, subtracts_keep, masks_keep, answers_taken}
use Rattle.smp_multi.proofs.laws.answers_are_fixed_at_run.Goals as goal

pub returns-clause-kept : goal.returns-clause-kept
returns-clause-kept c = (loads_keep, stores_keep, exchanges_keep, λ st m m' n w e t. absurd t, subtracts_keep, masks_keep)

pub returns-clause-taken : goal.returns-clause-taken
returns-clause-taken c = answers_taken
