use Rattle.smp_stop_steps.proofs.TheMachine.Refusals.{refuses_by_state}
use Rattle.smp_stop_steps.proofs.laws.refusals_are_of_the_state.Goals as goal

pub returns : goal.returns
returns c v p shown = refuses_by_state v p shown
