-- So much is written.
use Rattle.std.proofs.Common.{◌≡◌, ◌++◌, string_bytes}
use Rattle.trace_judge.specs.Text.{queue_text, texts_below}
use Rattle.trace_judge.proofs.text.write_queues.Given as goal

abbrev pub invariant-loop-cpu : goal.invariant-loop-cpu
invariant-loop-cpu g l = string_bytes l.out ≡ string_bytes l.initial.out ++ texts_below (queue_text l.state) l.cpu
