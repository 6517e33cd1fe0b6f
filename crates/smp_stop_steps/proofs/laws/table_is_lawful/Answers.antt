use Rattle.smp_stop_steps.proofs.Promises.Patchers.{is_lawful}
use Rattle.smp_stop_steps.proofs.laws.table_is_lawful.Goals as goal

pub returns : goal.returns
returns c u p at seat source h e = is_lawful u p at seat source h e
