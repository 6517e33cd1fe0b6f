-- So much is written.
use Rattle.std.proofs.Common.{◌≡◌, ◌++◌, string_bytes}
use Rattle.trace_judge.specs.Text.{stop_text, texts_below}
use Rattle.trace_judge.proofs.text.write_stops.Given as goal

abbrev pub invariant-loop-number : goal.invariant-loop-number
invariant-loop-number g l = string_bytes l.out ≡ string_bytes l.initial.out ++ texts_below (stop_text l.state) l.number
