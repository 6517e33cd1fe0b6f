-- A CPU that has begun a command is inside one.
use Rattle.std.proofs.Common.{◌≡◌, ◌∙◌, ◌<◌, ℕ, true, List, Option, Some, None, length, ap, arith, sym, true≢false, false, Bool}
use Rattle.std.proofs.lemmas.List.{get_or-set_same}
use Rattle.std.specs.Prelude.{slice_set}
use Rattle.smp_words.specs.Size.{cpus}
use Rattle.smp_words.specs.Limits.{AreLimits}
use Rattle.smp_words.specs.declared.command.Command.{Command}
use Rattle.smp_call_steps.specs.Stages.{ControlValue}
use Rattle.smp_call_steps.specs.Start.{control_at, first_stage}
use Rattle.smp_call_steps.specs.Value.{control_of, outside}
use Rattle.smp_call_steps.specs.declared.stage.Stage.{Stage}
use Rattle.smp_stop_steps.proofs.TheMachine.Fits.{passed}
use Rattle.smp_stop_steps.specs.Stages.{StopControlValue, stop_goes, stop_outside}
use Rattle.smp_stop_steps.specs.Start.{in_visit, may_advance, may_finish, may_run, stop_begun_if, stop_first, stop_refusal, stop_started}
use Rattle.smp_stop_steps.specs.Value.{StopsValue, stop_control_of}
use Rattle.smp_stop_steps.specs.declared.stage.StopStage.{StopStage}
use Rattle.smp_stop_steps.specs.declared.stage.Visit.{Visit}
use Rattle.smp_core.specs.Machine.{is_inside, is_inside_at}
use Rattle.smp_core.specs.Start.{refusal_of, started}
use Rattle.smp_core.specs.Value.{CoreValue}
use Rattle.smp_core.proofs.Starts.{may_start, start_below}

-- where a CPU is that was put at a stage of a half
pub calls_begun : (controls : List ControlValue) (cpu : ℕ) (stage : Option Stage) → cpu < length controls →
    (control_of (slice_set controls cpu (control_at (control_of controls cpu) stage)) cpu).stage ≡ stage
calls_begun controls cpu stage below =
    ap (λ (c : ControlValue). c.stage) (get_or-set_same controls cpu (control_at (control_of controls cpu) stage) outside below)

stops_begun : (v : StopsValue) (cpu : ℕ) (stage : StopStage) → cpu < length v.controls →
    (stop_control_of (stop_begun_if v cpu (Some stage)).controls cpu).stage ≡ Some stage
stops_begun v cpu stage below =
    let now = (stop_goes (stop_control_of v.controls cpu) stage).control in
    ap (λ (c : StopControlValue). c.stage) (get_or-set_same v.controls cpu now stop_outside below)

module _ (v : StopsValue) (cpu : ℕ) (below : cpu < length v.controls) where
  -- where the CPU is at this stage of the call half, if any, and begins at this one of the stop half
  abbrev IsInside : Option Stage → Option StopStage → Type 0
  IsInside x first = is_inside_at x (stop_control_of (stop_begun_if v cpu first).controls cpu).stage ≡ true

  in_stops : (stage : StopStage) → IsInside None (Some stage)
  in_stops stage = ap (is_inside_at None) (stops_begun v cpu stage below)

  -- who may do so only in a stop
  in_a_visit : (may : Option Visit → Bool) (o : Option Visit) (stage : Visit → StopStage) → may None ≡ false → may o ≡ true →
      IsInside None (in_visit o stage)
  in_a_visit may None stage none is = absurd (true≢false (sym is ∙ none))
  in_a_visit may (Some visit) stage none is = in_stops (stage visit)

  module _ (online : ℕ) where
    begun_inside : (c : Command) → stop_refusal v cpu c ≡ None → IsInside (first_stage online cpu c) (stop_first (stop_control_of v.controls cpu) c)
    begun_inside c e = search (in_a_visit may_advance, in_a_visit may_run, in_a_visit may_finish, passed, in_stops, arith)

-- a CPU on which a command has started is inside it
pub started_inside : (core : CoreValue) (cpu : ℕ) (c : Command) → AreLimits core.nr core.online → length core.controls ≡ cpus →
    length core.stops.controls ≡ cpus → refusal_of core cpu c ≡ None → is_inside (started core cpu c) cpu ≡ true
started_inside core cpu c limits sized stops_sized e =
    let below = start_below core cpu c limits e in
    let Y = (stop_control_of (stop_started core.stops cpu c).controls cpu).stage in
    let here = calls_begun core.controls cpu (first_stage core.online cpu c) (omega (arith, below, sized)) in
    let begun = begun_inside core.stops cpu (omega (arith, below, stops_sized)) core.online c (may_start core cpu c e).is_stop_allowed in
    ap (λ (x : Option Stage). is_inside_at x Y) here ∙ begun
