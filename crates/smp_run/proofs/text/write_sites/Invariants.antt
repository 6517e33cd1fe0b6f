use Rattle.std.proofs.Common.{◌≡◌, ◌++◌, string_bytes, take}
use Rattle.smp_run.specs.Text.{site_text, numbered}
use Rattle.smp_run.proofs.text.write_sites.Given as goal

abbrev pub invariant-loop-i : goal.invariant-loop-i
invariant-loop-i g l = string_bytes l.out ≡ string_bytes l.initial.out ++ numbered site_text 0 (take l.i l.sites)
