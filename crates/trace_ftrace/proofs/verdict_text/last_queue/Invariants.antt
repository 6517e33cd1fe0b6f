use Rattle.std.proofs.Common.{◌≡◌, length, None}
use Rattle.trace_ftrace.specs.Text.{last_queue}
use Rattle.trace_ftrace.proofs.verdict_text.last_queue.Given as goal

abbrev pub invariant-loop-rest : goal.invariant-loop-rest
invariant-loop-rest l = last_queue l.id l.line l.rest l.found ≡ last_queue l.fn.id l.fn.line l.fn.told None

abbrev pub decreases-loop-rest : goal.decreases-loop-rest
decreases-loop-rest l = length l.rest
