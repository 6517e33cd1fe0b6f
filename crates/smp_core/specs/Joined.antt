-- What joins the two halves of a core.
use Rattle.std.specs.Prelude.{◌≡◌, ◌⊎◌, ℕ, Bool, true, Option, Some, None, List}
use Rattle.smp_call_steps.specs.Stages.{ControlValue}
use Rattle.smp_call_steps.specs.Value.{control_of}
use Rattle.smp_call_steps.specs.declared.stage.Stage.{Stage}
use Rattle.smp_call_steps.specs.declared.stage.Stage.TheVariants.{Handle}
use Rattle.smp_stop_steps.specs.Stages.{StopControlValue}
use Rattle.smp_stop_steps.specs.Value.{stop_control_of}

-- inside `handle` interrupts are on
abbrev pub HandlesWithOn : Option Stage → Bool → Type 0
HandlesWithOn (Some (Handle stage)) on = on ≡ true
HandlesWithOn _ on = Unit {0}

-- a CPU is inside a command of one half at most
abbrev pub IsInOneHalf : List ControlValue → List StopControlValue → ℕ → Type 0
IsInOneHalf controls stops cpu = ((control_of controls cpu).stage ≡ None) ⊎ ((stop_control_of stops cpu).stage ≡ None)

-- so it is of each CPU
pub record AreJoined (controls : List ControlValue) (stops : List StopControlValue) : Type 0 where
  pub handles : (cpu : ℕ) → HandlesWithOn (control_of controls cpu).stage (stop_control_of stops cpu).interrupts
  pub in_one : (cpu : ℕ) → IsInOneHalf controls stops cpu
