-- What a kept core takes.
use Rattle.std.proofs.Common.{◌≡◌, ℕ, true, Option, Some, None, ap}
use Rattle.std.proofs.lemmas.Bool.{eqb-true}
use Rattle.smp_sparse.specs.Count.{Tells}
use Rattle.smp_call_steps.specs.Stages.{ControlValue}
use Rattle.smp_call_steps.specs.Value.{outside}
use Rattle.smp_call_steps.specs.declared.stage.Stage.{Stage}
use Rattle.smp_core.specs.Weights.{is_outside}

abbrev control_with : Option Stage → ℕ → ControlValue
control_with stage calls = record { stage = stage; drain = record { calls = calls } }

outside_if : (stage : Option Stage) (calls : ℕ) → is_outside (control_with stage calls) ≡ true → control_with stage calls ≡ outside
outside_if (Some s) calls is = absurd cc
outside_if None calls is = ap (control_with None) (eqb-true calls 0 is)

-- the test holds of a CPU outside a command, with nothing reversed, and of no other
pub outside_tells : Tells outside is_outside
outside_tells c = (outside_if c.stage c.drain.calls, λ same. ap is_outside same)
