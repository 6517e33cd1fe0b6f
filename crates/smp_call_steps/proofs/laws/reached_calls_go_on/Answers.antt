use Rattle.std.proofs.Common.{refl}
use Rattle.smp_call_steps.specs.Reached.{no_words}
use Rattle.smp_call_steps.proofs.Knows.Reached.{nothing_reached}
use Rattle.smp_call_steps.proofs.StepLaws.Reaching.{reaches_on}
use Rattle.smp_call_steps.proofs.laws.reached_calls_go_on.Goals as goal

pub returns-clause-nothing : goal.returns-clause-nothing
returns-clause-nothing c = nothing_reached no_words (λ word. refl)

pub returns-clause-step : goal.returns-clause-step
returns-clause-step c a at control shown me stage e r = reaches_on a at control shown me stage e r
