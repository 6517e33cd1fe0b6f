use Rattle.smp_script.proofs.Names.{subst, setting_in}
use Rattle.smp_script.proofs.Faults.FirstFaults.{TellsText, script_tells}
use Rattle.smp_script.proofs.Faults.OneFault.{has_none, is_read, is_refused}
use Rattle.smp_script.proofs.laws.first_faults_are_told.Goals as goal

pub returns-clause-first : goal.returns-clause-first
returns-clause-first c = λ mode text n cause. (λ h. subst (TellsText (setting_in mode text) text) h (script_tells mode text), is_refused mode text n cause)

pub returns-clause-none : goal.returns-clause-none
returns-clause-none c = λ mode text. (has_none mode text, is_read mode text)
