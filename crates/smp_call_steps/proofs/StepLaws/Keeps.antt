-- Each step that a CPU may make next keeps the laws of steps.
use Rattle.std.proofs.Common.{◌≡◌, ℕ, Some, subst, ap}
use Rattle.smp_words.specs.Put.{put}
use Rattle.smp_words.proofs.Puts.{put_same}
use Rattle.smp_call_steps.specs.{CallState, DrainValue, ControlValue, KeepsStepLaws, StepsKeepLaws, KnownStepsKeepLaws, Word}
use Rattle.smp_call_steps.specs.Shows.{Shows}
use Rattle.smp_call_steps.proofs.Knows.Restages.{restages}
use Rattle.smp_call_steps.proofs.StepLaws.Functions.{function_goes}
use Rattle.smp_call_steps.proofs.StepLaws.Notes.{queue_goes, says_so}
use Rattle.smp_call_steps.proofs.StepLaws.Premises.{may_make}
use Rattle.smp_call_steps.proofs.StepLaws.Records.{keeps_records}
use Rattle.smp_call_steps.proofs.StepLaws.Tries.{tries_go}

pub steps_keep_laws : (a : CallState) (at : Word → ℕ) (control : ℕ → ControlValue) → Shows a at control → StepsKeepLaws a at control
steps_keep_laws a at control s me stage e = record {
  premise = may_make a at control s me stage e;
  records = keeps_records a at control s me stage e;
  functions = function_goes a at control s me stage e;
  queues = queue_goes a at control s me stage e;
  says = says_so a at control s me stage e;
  tries = tries_go a at control s me stage e;
}

-- also where threads share the words, at each stage that what the CPU knows leaves open
pub known_steps_keep_laws : KnownStepsKeepLaws
known_steps_keep_laws a at control v s sees stage may =
    let standing : ControlValue = record { stage = Some stage; drain = v.drain } in
    let there : put control v.number standing v.number ≡ standing = put_same control v.number standing in
    subst (λ (d : DrainValue). KeepsStepLaws a at d v.number stage) (ap (λ (c : ControlValue). c.drain) there)
    (steps_keep_laws a at (put control v.number standing) (restages s sees stage may) v.number stage (ap (λ (c : ControlValue). c.stage) there))
