use Rattle.std.proofs.Common.{◌≡◌, take}
use Rattle.load.specs.Tallies.{row_added}
use Rattle.load.proofs.bench.call_seat.added.Given as goal

abbrev pub invariant-loop-ran : goal.invariant-loop-ran
invariant-loop-ran l = l.all ≡ row_added l.sum (take l.ran-index l.row)
