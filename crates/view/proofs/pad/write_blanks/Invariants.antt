use Rattle.std.proofs.Common.{◌≡◌, ◌++◌, string_bytes}
use Rattle.view.specs.Cells.{blanks}
use Rattle.view.proofs.pad.write_blanks.Given as goal

abbrev pub invariant-loop-blank : goal.invariant-loop-blank
invariant-loop-blank g l = string_bytes l.out ≡ string_bytes l.initial.out ++ blanks l._blank
