use Rattle.smp_call_steps.proofs.State.BatchLinks.{batch_links}
use Rattle.smp_call_steps.proofs.laws.batch_links.Goals as goal

pub returns : goal.returns
returns c a at control s cpu = batch_links a at control s cpu
