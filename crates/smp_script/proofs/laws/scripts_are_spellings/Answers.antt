use Rattle.smp_script.proofs.Written.CanonicalTexts.{canonical_is_read}
use Rattle.smp_script.proofs.Spelled.Readings.{script_is_spelled}
use Rattle.smp_script.proofs.Written.Writing.{spelling_is_read}
use Rattle.smp_script.proofs.laws.scripts_are_spellings.Goals as goal

pub returns-clause-canonical : goal.returns-clause-canonical
returns-clause-canonical c = canonical_is_read

pub returns-clause-only : goal.returns-clause-only
returns-clause-only c = λ mode text script. (script_is_spelled mode text script, λ s. spelling_is_read mode s.0 s.1 script text s.2)
