use Rattle.smp_stop_steps.proofs.Promises.KnownPremises.{keeps_move_laws}
use Rattle.smp_stop_steps.proofs.laws.known_moves_keep_laws.Goals as goal

pub returns : goal.returns
returns c p at seat source v shown sees m may = keeps_move_laws p at seat source v shown sees m may
