use Rattle.std.proofs.Common.{◌≡◌, length}
use Rattle.trace_ftrace.specs.Headings.{past_last}
use Rattle.trace_ftrace.proofs.heading.past_last.Given as goal

abbrev pub invariant-loop-rest : goal.invariant-loop-rest
invariant-loop-rest l = past_last l.mark l.last l.rest ≡ past_last l.fn.mark l.fn.text l.fn.text

abbrev pub decreases-loop-rest : goal.decreases-loop-rest
decreases-loop-rest l = length l.rest
