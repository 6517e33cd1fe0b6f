use Rattle.smp_stop_steps.proofs.Steps.Facts.{no_stops_shown}
use Rattle.smp_stop_steps.proofs.laws.nothing_is_begun.Goals as goal

pub returns : goal.returns
returns c u at setup gate rolls entries lawful off = no_stops_shown u at setup gate rolls entries lawful off
