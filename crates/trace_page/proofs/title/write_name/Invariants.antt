use Rattle.std.proofs.Common.{◌≡◌, ◌++◌, take, string_bytes}
use Rattle.trace_page.specs.Escapes.{escaped}
use Rattle.trace_page.proofs.title.write_name.Given as goal

abbrev pub invariant-loop-byte : goal.invariant-loop-byte
invariant-loop-byte g l = string_bytes l.out ≡ string_bytes l.initial.out ++ escaped (take l.byte-index l.name)
