use Rattle.smp_stop_steps.proofs.{Steps.CallSteps.call_step, Steps.CompletionSteps.stop_step_shown}
use Rattle.smp_stop_steps.proofs.laws.steps_are_told.Goals as goal

pub returns : goal.returns
returns c u p at seat source h control me sits carry stage e = (
  stop_step_shown u p at seat source h control me sits carry stage e,
  call_step u p at seat
      source h control me sits carry stage e,
)
