use Rattle.std.proofs.Common.{◌≡◌, ◌++◌, take}
use Rattle.trace_ftrace.specs.JsonPieces.{quoted}
use Rattle.trace_ftrace.proofs.json.pieces.write_quoted.Given as goal

abbrev pub invariant-loop-byte : goal.invariant-loop-byte
invariant-loop-byte g l = l.out.items ≡ l.initial.out.items ++ quoted (take l.byte-index l.name)
