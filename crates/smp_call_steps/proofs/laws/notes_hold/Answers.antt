use Rattle.smp_call_steps.proofs.StepLaws.Notes.{queue_goes, says_so}
use Rattle.smp_call_steps.proofs.laws.notes_hold.Goals as goal

pub returns-clause-queues : goal.returns-clause-queues
returns-clause-queues c a at control shown me stage e = queue_goes a at control shown me stage e

pub returns-clause-says : goal.returns-clause-says
returns-clause-says c a at control shown me stage e = says_so a at control shown me stage e
