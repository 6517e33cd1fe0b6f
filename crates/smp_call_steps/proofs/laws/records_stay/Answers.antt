use Rattle.smp_call_steps.proofs.StepLaws.Records.{keeps_records}
use Rattle.smp_call_steps.proofs.laws.records_stay.Goals as goal

pub returns : goal.returns
returns c a at control shown me stage e = keeps_records a at control shown me stage e
