use Rattle.smp_call_steps.proofs.Headline.{shown_laws, in_one_place}
use Rattle.smp_call_steps.proofs.laws.place_law.Goals as goal

pub returns : goal.returns
returns c a at control s = in_one_place (shown_laws s)
