-- The function calls that a step of a core says are those of the calls that begin.
use Rattle.std.proofs.Common.{◌≡◌, ℕ, Bool, true, false, cond, inl, Option, Some, ap, arith}
use Rattle.smp_call_steps.specs.Calls.{tells}
use Rattle.smp_call_steps.specs.Functions.{told_of, is_call}
use Rattle.smp_call_steps.specs.Value.{control_of}
use Rattle.smp_call_steps.specs.declared.stage.Stage.{Stage}
use Rattle.smp_call_steps.proofs.StepLaws.Keeps.{steps_keep_laws}
use Rattle.smp_call_steps.proofs.StepLaws.Saying.{says_one}
use Rattle.smp_core.specs.Machine.{seen_at, CallsSaid}
use Rattle.smp_core.specs.Value.{CoreValue}
use Rattle.smp_core.proofs.Halves.{stop_step_apart}
use Rattle.smp_words.specs.Layout.{number_in}
use Rattle.smp_stop_steps.specs.Machine.{stop_seen_at}
use Rattle.smp_stop_steps.specs.Stages.{StopControlValue, StopOutcome, turn_note, key_on, nudge_on}
use Rattle.smp_stop_steps.specs.Stages.{stop_outcome}
use Rattle.smp_stop_steps.specs.Value.{stop_control_of}
use Rattle.smp_stop_steps.specs.declared.stage.StopStage.{StopStage}
use Rattle.smp_stop_steps.specs.declared.stage.Visit.{Visit}
use Rattle.smp_words.specs.declared.seen.Note.{Note}

-- a step of the call half
pub says_call : (core : CoreValue) (cpu : ℕ) (stage : Stage) → (control_of core.controls cpu).stage ≡ Some stage → CallsSaid core (seen_at core cpu stage)
says_call core cpu stage e a shown =
    let k = steps_keep_laws a (number_in core.words) (control_of core.controls) shown cpu stage e in
    says_one a (tells a (seen_at core cpu stage)) (seen_at core cpu stage) k.functions

-- no step of the stop half says that the function of a call runs

if_note : (b : Bool) (x y : StopOutcome) → is_call x.note ≡ false → is_call y.note ≡ false → is_call (cond b x y).note ≡ false
if_note true x y p q = p
if_note false x y p q = q

if_said : (b : Bool) (m n : Note) → is_call (Some m) ≡ false → is_call (Some n) ≡ false → is_call (Some (cond b m n)) ≡ false
if_said true m n p q = p
if_said false m n p q = q

turn_said : (p : ℕ) (ran : Bool) → is_call (Some (turn_note p ran)) ≡ false
turn_said p ran = search (if_said, arith)

module _ (c : StopControlValue) (me found : ℕ) where
  key_said : (v : Visit) (key : ℕ) (new : Option ℕ) → is_call (key_on c v key found new).note ≡ false
  key_said v key new = search (if_note, arith)

  nudge_said : (k : ℕ) (new : Option ℕ) → is_call (nudge_on c k found new).note ≡ false
  nudge_said k new = search (if_note, arith)

  stop_said : (stage : StopStage) → is_call (stop_outcome me c stage found).note ≡ false
  stop_said stage = search (if_note, if_said, turn_said, key_said, nudge_said, arith)

-- a step of the stop half
pub says_stop : (core : CoreValue) (cpu : ℕ) (stage : StopStage) → CallsSaid core (stop_seen_at core.stops cpu stage)
says_stop core cpu stage a shown =
    let seen = stop_seen_at core.stops cpu stage in
    says_one a (tells a seen) seen (inl (record {
      same = ap told_of (stop_step_apart a cpu _ seen.note _ _ stage);
      says = stop_said (stop_control_of core.stops.controls cpu) cpu _ stage;
    }))
