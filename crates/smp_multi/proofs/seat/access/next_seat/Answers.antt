use Rattle.std.proofs.Common.{arith}
use Rattle.smp_multi.proofs.Keeps.{splits}
use Rattle.smp_multi.proofs.seat.access.next_seat.Goals as goal

pub split-raw-requires : goal.split-raw-requires
split-raw-requires c = (c.requires.table.0, omega arith, splits _ _ c.args.n _ c.requires.next.0 c.requires.next.1)
