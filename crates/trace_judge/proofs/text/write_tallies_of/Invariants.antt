-- So much is written.
use Rattle.std.proofs.Common.{◌≡◌, ◌++◌, string_bytes}
use Rattle.trace_judge.specs.Text.{tally_text, texts_below}
use Rattle.trace_judge.proofs.text.write_tallies_of.Given as goal

abbrev pub invariant-loop-to : goal.invariant-loop-to
invariant-loop-to g l = string_bytes l.out ≡ string_bytes l.initial.out ++ texts_below (tally_text l.state l.source) l.to
