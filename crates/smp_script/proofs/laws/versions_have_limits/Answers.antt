use Rattle.smp_script.proofs.Spelled.Readings.{script_is_spelled}
use Rattle.smp_script.proofs.laws.versions_have_limits.Goals as goal

pub returns-clause-within : goal.returns-clause-within
returns-clause-within c = λ mode text script read. let spelling = script_is_spelled mode text script read in (spelling.2.some, spelling.2.within)
