use Rattle.std.proofs.Common.{◌≡◌, take}
use Rattle.load.specs.Tallies.{sum_of}
use Rattle.load.proofs.bench.call_seat.sum_of.Given as goal

abbrev pub invariant-loop-row : goal.invariant-loop-row
invariant-loop-row l = l.sum ≡ sum_of (take l.row-index l.tally.ran)
