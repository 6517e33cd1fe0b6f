use Rattle.smp_stop_steps.proofs.Knows.Parts.{fresh_sees}
use Rattle.smp_stop_steps.proofs.laws.nothing_is_known.Goals as goal

pub returns : goal.returns
returns c k me low = fresh_sees k me low
