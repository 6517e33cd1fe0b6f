use Rattle.std.proofs.Common.{arith}
use Rattle.smp_multi.proofs.Completing.{able_count}
use Rattle.smp_multi.proofs.seat.run_steps.complete.Goals as goal

pub subtract_with-requires : goal.subtract_with-requires
subtract_with-requires c = record { ends = able_count _ _ c.args.slot c.args.acked _ _ c.give.ensures.at; fits = omega arith }
