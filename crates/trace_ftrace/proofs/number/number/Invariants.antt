use Rattle.std.proofs.Common.{◌≡◌, length, Some}
use Rattle.trace_ftrace.specs.Numbers.{digits_on, number_of}
use Rattle.trace_ftrace.proofs.number.number.Given as goal

abbrev pub invariant-loop-rest : goal.invariant-loop-rest
invariant-loop-rest l = digits_on l.base (Some l.value) l.rest ≡ number_of l.base l.fn.text

abbrev pub decreases-loop-rest : goal.decreases-loop-rest
decreases-loop-rest l = length l.rest
