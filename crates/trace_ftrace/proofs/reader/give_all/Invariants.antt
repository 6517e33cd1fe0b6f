use Rattle.std.proofs.Common.{ℕ, List}
use Rattle.std.specs.Io.KnownBytes.{Consumes}
use Rattle.trace_ftrace.proofs.reader.give_all.Given as goal

abbrev pub invariant-pieces : goal.invariant-pieces
invariant-pieces g l =
    (text : List ℕ) × Consumes (g.R.Read.remaining l.fn.reader) (g.R.Read.remaining l.reader) text × g.T.TakesPieces.has_taken l.fn.taker text l.taker

abbrev pub decreases-pieces : goal.decreases-pieces
decreases-pieces g l = l.left
