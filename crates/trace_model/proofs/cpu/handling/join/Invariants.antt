-- The batch has the calls of the class among those that were walked.
use Rattle.std.proofs.Common.{◌≡◌, ◌++◌, take}
use Rattle.trace_model.specs.Cpu.{of_class}
use Rattle.trace_model.proofs.cpu.handling.join.Given as goal

abbrev pub invariant-loop-call : goal.invariant-loop-call
invariant-loop-call g l = l.batch.items ≡ l.initial.batch.items ++ of_class l.fn.class (take l.call-index l.queue)
