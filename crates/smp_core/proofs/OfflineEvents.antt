-- CPUs that are not online have no part in what a list of events tells.
use Rattle.std.proofs.Common.{◌≡◌, ◌≢◌, ℕ, false, IfOk, Option, Some, None, Ok, refl, sym, subst, ap, ne_eqb, arith}
use Rattle.smp_mask.specs.Mask.{has}
use Rattle.smp_mask.specs.declared.error.SmpError.{SmpError}
use Rattle.smp_words.specs.declared.command.Command.{Command}
use Rattle.smp_words.specs.declared.command.Event.{Event}
use Rattle.smp_words.specs.declared.command.Event.TheVariants as event
use Rattle.smp_words.specs.declared.seen.Seen.{Seen}
use Rattle.smp_words.specs.Layout.{number_in}
use Rattle.smp_call_steps.specs.Calls.{CallState, tells_if}
use Rattle.smp_call_steps.specs.Threads.Parts.{part_of}
use Rattle.smp_call_steps.specs.Value.{control_of}
use Rattle.smp_call_steps.specs.declared.stage.Stage.{Stage}
use Rattle.smp_call_steps.proofs.Knows.Parts.{part_else}
use Rattle.smp_stop_steps.specs.Threads.Known.{holds_it}
use Rattle.smp_stop_steps.specs.Stages.{answer_at}
use Rattle.smp_stop_steps.specs.State.{StopState, no_stops}
use Rattle.smp_stop_steps.specs.Tells.{tells_if as stops_if}
use Rattle.smp_stop_steps.specs.Value.{StopShown, stop_control_of}
use Rattle.smp_stop_steps.specs.Machine.{stop_found_at, stop_seen_at}
use Rattle.smp_stop_steps.specs.declared.stage.StopStage.{StopStage}
use Rattle.smp_words.specs.Size.{cpus}
use Rattle.smp_core.specs.Machine.{found_at, seen_at, setup_in, step_at}
use Rattle.smp_core.specs.OfflineStops.{AreInNoStop, HasNoStop, stop_part_of}
use Rattle.smp_core.specs.Replay.{start_turn, step_turn, turn_of}
use Rattle.smp_core.specs.Start.{refusal_of, started}
use Rattle.smp_core.specs.Value.{CoreValue, Shown}
use Rattle.smp_core.specs.Whole.{IsWhole}
use Rattle.smp_core.proofs.Halves.{call_step_apart, stop_step_apart}
use Rattle.smp_core.proofs.Offline.{apart, inside_online}
use Rattle.smp_core.proofs.Starts.{started_keeps}
use Rattle.smp_core.proofs.OfflineStops.{apart as stops_apart, has_no_stop, inside_online as stops_inside_online, stage_else}

-- an event keeps the CPUs online and the labels

abbrev pub SameCpus : CoreValue → CoreValue → Type 0
SameCpus new old = (new.online ≡ old.online) × (setup_in new ≡ setup_in old)

start_same : (core : CoreValue) (cpu : ℕ) (c : Command) (refused : Option SmpError) → SameCpus (start_turn core (started core cpu c) refused).core core
start_same core cpu c (Some e) = (refl, refl)
start_same core cpu c None = (refl, (started_keeps core.stops cpu c).2)

step_same : (core : CoreValue) (cpu : ℕ) (x : Option Stage) (y : Option StopStage) → SameCpus (step_turn core (step_at core cpu x y)).core core
step_same core cpu x y = search arith

pub turn_same : (core : CoreValue) (event : Event) → SameCpus (turn_of core event).core core
turn_same core (event.Start cpu c) = start_same core cpu c (refusal_of core cpu c)
turn_same core (event.Step cpu) = step_same core cpu (control_of core.controls cpu).stage (stop_control_of core.stops.controls cpu).stage

-- in no stop a CPU has the part of no stops
not_held : (g : Option ℕ) (c : ℕ) → g ≢ Some c → holds_it g c ≡ false
not_held None c ne = refl
not_held (Some d) c ne = ne_eqb d c (λ same. ne (ap Some same))

pub has_no_part : (p : StopState) (c : ℕ) → HasNoStop p c → stop_part_of p c ≡ stop_part_of no_stops c
has_no_part p c h = λ i. record {
  holds = not_held p.gate c h.gate i;
  inside = h.inside i;
  irq = h.irq i;
  readings = h.readings i;
  begun = h.begun i;
  collected = h.collected i;
  answers = λ s. h.answers s i;
  looks = h.looks i;
  calls = h.calls i;
  calling = h.calling i;
  nudged = λ k. h.nudged k i;
  patched = λ k. h.patched k i;
}

-- an event leaves the part of each CPU that is not online

module _ (core : CoreValue) (w : IsWhole core) (j : ℕ) (off : has core.online j ≡ false) where
  stops_off : has core.stops.online j ≡ false
  stops_off = rw w.sound.stops_online off

  abbrev HasNone : StopState → Type 0
  HasNone p = stop_part_of p j ≡ stop_part_of no_stops j

  -- what is seen, and what the CPU's function answers, leave it
  abbrev pub Keeps : ℕ → Option Seen → Type 0
  Keeps answered s = ((a : CallState) → Shown a core → part_of (tells_if a s) j ≡ part_of a j)
      × ((p : StopState) → HasNone p → HasNone (stops_if (setup_in core) p s answered))

  start_keeps : (new : CoreValue) (refused : Option SmpError) → let turn = start_turn core new refused in IfOk turn.answer (Keeps turn.answered)
  start_keeps new None = (λ a shown. refl, λ p h. h)
  start_keeps new (Some refused) = tt

  module _ (cpu : ℕ) where
    call_keeps : (stage : Stage) → (control_of core.controls cpu).stage ≡ Some stage → Keeps 0 (Some (seen_at core cpu stage))
    call_keeps stage e = (
      λ a shown. part_else cpu (control_of core.controls cpu).drain shown stage j
          (apart core.online cpu j (inside_online core.online core.words core.controls cpu w.sound.table.controls_sized w.sound.apart stage e) off),
      λ p h. subst HasNone (sym (call_step_apart (setup_in core) p cpu 0 (found_at core cpu stage) (seen_at core cpu stage).note
          (number_in core.words) stage)) h,
    )

    stop_keeps : (stage : StopStage) → (stop_control_of core.stops.controls cpu).stage ≡ Some stage →
        Keeps (answer_at stage) (Some (stop_seen_at core.stops cpu stage))
    stop_keeps stage e =
        let before = w.sound.stops_apart in
        let seen = stop_seen_at core.stops cpu stage in (
          λ a shown. ap (λ (b : CallState). part_of b j) (stop_step_apart a cpu (stop_found_at core.stops cpu stage) seen.note cpus
              (stop_control_of core.stops.controls cpu).changes stage),
          λ p h. stage_else (setup_in core) p cpu j (stops_apart core.stops cpu before j (stops_inside_online core.stops cpu before stage e) stops_off)
              cpus (stop_control_of core.stops.controls cpu).changes (stop_found_at core.stops cpu stage) seen.note h stage,
        )

    step_keeps : (x : Option Stage) (y : Option StopStage) → (control_of core.controls cpu).stage ≡ x → (stop_control_of core.stops.controls cpu).stage ≡ y →
        let turn = step_turn core (step_at core cpu x y) in
        IfOk turn.answer (Keeps turn.answered)
    step_keeps (Some stage) y e f = call_keeps stage e
    step_keeps None (Some stage) e f = stop_keeps stage f
    step_keeps None None e f = tt

  event_keeps : (event : Event) → IfOk (turn_of core event).answer (Keeps (turn_of core event).answered)
  event_keeps (event.Start cpu c) = start_keeps (started core cpu c) (refusal_of core cpu c)
  event_keeps (event.Step cpu) = step_keeps cpu (control_of core.controls cpu).stage (stop_control_of core.stops.controls cpu).stage refl refl

  pub turn_keeps : (event : Event) (s : Option Seen) → Ok s ≡ (turn_of core event).answer → Keeps (turn_of core event).answered s
  turn_keeps event s is = subst (λ r. IfOk r (Keeps (turn_of core event).answered)) (sym is) (event_keeps event)

-- stops that a core shows, in which the CPUs that are not online have the part of no stops
pub in_no_stop : (core : CoreValue) → IsWhole core → (p : StopState) → StopShown p core.stops →
    ((j : ℕ) → has core.online j ≡ false → stop_part_of p j ≡ stop_part_of no_stops j) → AreInNoStop core.online p
in_no_stop core w p shown idle c off = has_no_stop core.stops record {
  stops = p;
  shown = shown;
  outside = w.sound.stops_apart.outside;
  idle = λ j none. idle j (subst (λ (o : ℕ). has o j ≡ false) w.sound.stops_online none);
} c (rw w.sound.stops_online off)
