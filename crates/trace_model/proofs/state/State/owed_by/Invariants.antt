-- None of the CPUs that were tried owes it.
use Rattle.std.proofs.Common.{◌≡◌, ◌-◌}
use Rattle.trace_model.specs.Ending.{owed_by, owes}
use Rattle.trace_model.specs.Stop.{first_from}
use Rattle.trace_model.proofs.state.State.owed_by.Given as goal

abbrev pub invariant-loop-source : goal.invariant-loop-source
invariant-loop-source g l = first_from (λ source. owes l.self l.to source) l.source (512 - l.source) ≡ owed_by l.self l.to
