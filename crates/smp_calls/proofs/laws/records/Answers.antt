use Rattle.smp_calls.proofs.Lawful.{are_apart}
use Rattle.smp_calls.proofs.laws.records.Goals as goal

pub returns-clause-apart : goal.returns-clause-apart
returns-clause-apart c = are_apart
