use Rattle.smp_stop_steps.proofs.Knows.KnownMoves.{known_move}
use Rattle.smp_stop_steps.proofs.laws.moves_are_known.Goals as goal

pub returns : goal.returns
returns c p at seat source v h sees m may = known_move p at seat source v h sees m may
