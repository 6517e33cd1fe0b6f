use Rattle.std.proofs.Common.{◌≡◌, ◌++◌, string_bytes, take}
use Rattle.smp_run.specs.Text.{line_text, numbered}
use Rattle.smp_run.proofs.text.write_answers.Given as goal

abbrev pub invariant-loop-at : goal.invariant-loop-at
invariant-loop-at g l = string_bytes l.out ≡ string_bytes l.initial.out ++ numbered line_text l.first (take l.at l.answers)
