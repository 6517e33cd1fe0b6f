use Rattle.std.proofs.Common.{◌≡◌, ◌++◌, string_bytes, take}
use Rattle.smp_run.specs.Text.{key_text, numbered}
use Rattle.smp_run.proofs.text.write_keys.Given as goal

abbrev pub invariant-loop-k : goal.invariant-loop-k
invariant-loop-k g l = string_bytes l.out ≡ string_bytes l.initial.out ++ numbered key_text 0 (take l.k l.keys)
