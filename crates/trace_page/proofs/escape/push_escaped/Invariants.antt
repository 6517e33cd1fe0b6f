use Rattle.std.proofs.Common.{◌≡◌, ◌++◌, take}
use Rattle.trace_page.specs.Escapes.{escaped}
use Rattle.trace_page.proofs.escape.push_escaped.Given as goal

abbrev pub invariant-loop-byte : goal.invariant-loop-byte
invariant-loop-byte g l = l.out.items ≡ l.initial.out.items ++ escaped (take l.byte-index l.bytes)
