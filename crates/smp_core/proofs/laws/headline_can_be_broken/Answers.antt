use Rattle.smp_core.proofs.Headline.{shows_no_state}
use Rattle.smp_core.proofs.laws.headline_can_be_broken.Goals as goal

pub returns : goal.returns
returns c = record { state = shows_no_state }
