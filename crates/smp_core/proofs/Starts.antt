-- A command that may start may start in both halves.
use Rattle.std.proofs.Common.{◌≡◌, ℕ, ◌<◌, true, Option, Some, None, length, refl, arith}
use Rattle.std.specs.Prelude.{slice_set}
use Rattle.smp_mask.specs.Mask.{has}
use Rattle.smp_mask.specs.declared.error.SmpError.{SmpError}
use Rattle.smp_words.specs.Size.{cpus}
use Rattle.smp_call_steps.specs.Calls.{CallState}
use Rattle.smp_words.specs.Limits.{AreLimits}
use Rattle.smp_core.specs.Start.{refusal_of, own_refusal, or_else, busy_or}
use Rattle.smp_call_steps.specs.Start.{command_refusal, first_stage, control_at}
use Rattle.smp_words.specs.Commands.{FitsCommand}
use Rattle.smp_stop_steps.specs.Start.{stop_refusal, stop_started, stop_begun_if, stop_first}
use Rattle.smp_stop_steps.specs.Value.{StopsValue, setup_of, stop_control_of}
use Rattle.smp_stop_steps.specs.declared.stage.StopStage.{StopStage}
use Rattle.smp_core.specs.Value.{CoreValue}
use Rattle.smp_call_steps.specs.Value.{ValuesShow, control_of}
use Rattle.smp_call_steps.proofs.Machine.Cores.{controls_by_cpu}
use Rattle.smp_words.specs.declared.command.Command.{Command}
use Rattle.smp_call_steps.proofs.Machine.Starts.{else_none, online_below, begun_shows}

not_busy : {A : Type 0} (stage : Option A) (r : Option SmpError) → busy_or stage r ≡ None → (stage ≡ None) × (r ≡ None)
not_busy stage r e = search arith

neither : (x y : Option SmpError) → or_else x y ≡ None → (x ≡ None) × (y ≡ None)
neither x y e = search arith

-- what a command that may start knows
pub record MayStart (core : CoreValue) (cpu : ℕ) (c : Command) : Type 0 where
  pub is_online : has core.online cpu ≡ true
  pub is_outside : (control_of core.controls cpu).stage ≡ None
  pub is_allowed : command_refusal core.nr core.online cpu c ≡ None
  pub is_stop_outside : (stop_control_of core.stops.controls cpu).stage ≡ None
  pub is_stop_allowed : stop_refusal core.stops cpu c ≡ None

pub may_start : (core : CoreValue) (cpu : ℕ) (c : Command) → refusal_of core cpu c ≡ None → MayStart core cpu c
may_start core cpu c e =
    let o = else_none (has core.online cpu) _ _ e in
    let b = not_busy (control_of core.controls cpu).stage _ o.1 in
    let d = not_busy (stop_control_of core.stops.controls cpu).stage (own_refusal core cpu c) b.1 in
    let n = neither (command_refusal core.nr core.online cpu c) (stop_refusal core.stops cpu c) d.1 in
    record { is_online = o.0; is_outside = b.0; is_allowed = n.0; is_stop_outside = d.0; is_stop_allowed = n.1 }

-- a CPU on which a command may start is one that there can be
pub start_below : (core : CoreValue) (cpu : ℕ) (c : Command) → AreLimits core.nr core.online → refusal_of core cpu c ≡ None → cpu < cpus
start_below core cpu c limits e = let m = may_start core cpu c e in online_below core.nr core.online cpu limits m.is_online

-- the calls that a core shows are those that it shows once a command has started
pub started_shown : (a : CallState) (core : CoreValue) (cpu : ℕ) (c : Command) → AreLimits core.nr core.online → length core.controls ≡ cpus
    → refusal_of core cpu c ≡ None → FitsCommand c →
    ValuesShow a core.words core.controls
    → ValuesShow a core.words (slice_set core.controls cpu (control_at (control_of core.controls cpu) (first_stage core.online cpu c)))
started_shown a core cpu c limits l e f s =
    let m = may_start core cpu c e in
    let below = online_below core.nr core.online cpu limits m.is_online in
    rw (controls_by_cpu core.controls cpu (control_at (control_of core.controls cpu) (first_stage core.online cpu c)) l below)
    (begun_shows core.nr core.online cpu c s m.is_outside limits below m.is_allowed f)

-- a start keeps the CPUs, those online and the labels
abbrev pub KeepsCpus : StopsValue → StopsValue → Type 0
KeepsCpus new old = (new.nr ≡ old.nr) × (new.online ≡ old.online) × (setup_of new.online new.labels ≡ setup_of old.online old.labels)

begun_keeps : (v : StopsValue) (cpu : ℕ) (stage : Option StopStage) → KeepsCpus (stop_begun_if v cpu stage) v
begun_keeps v cpu None = (refl, refl, refl)
begun_keeps v cpu (Some stage) = (refl, refl, refl)

pub started_keeps : (v : StopsValue) (cpu : ℕ) (c : Command) → KeepsCpus (stop_started v cpu c) v
started_keeps v cpu c = begun_keeps v cpu (stop_first (stop_control_of v.controls cpu) c)
