-- A core stays whole, by each step and by the beginning of each command.
use Rattle.std.proofs.Common.{◌≡◌, ℕ, ◌<◌, true, Option, Some, None, List, refl, sym, subst, ◌∙◌}
use Rattle.std.proofs.lemmas.List.{length-set}
use Rattle.std.specs.Prelude.{IfSome, MatchOption, slice_set}
use Rattle.smp_mask.specs.Mask.{has}
use Rattle.smp_words.specs.Size.{cpus}
use Rattle.smp_words.specs.Commands.{FitsCommand}
use Rattle.smp_words.specs.Access.{seen_of, word_of, words_after}
use Rattle.smp_words.specs.Layout.{number_in}
use Rattle.smp_words.specs.declared.command.Command.{Command}
use Rattle.smp_words.specs.declared.seen.Seen.{Seen}
use Rattle.smp_call_steps.specs.Calls.{tells}
use Rattle.smp_call_steps.specs.Stages.{ControlValue, access_of, control_after, outcome_of}
use Rattle.smp_call_steps.specs.Start.{control_at, first_stage}
use Rattle.smp_call_steps.specs.Value.{control_of}
use Rattle.smp_call_steps.specs.declared.stage.Stage.{Stage}
use Rattle.smp_call_steps.proofs.Machine.Cores.{length-words_after, made_shown}
use Rattle.smp_call_steps.proofs.Machine.Starts.{online_below}
use Rattle.smp_stop_steps.specs.Machine.{IsStepOf, StopTold, stop_seen_at, stop_stepped}
use Rattle.smp_stop_steps.specs.Table.{stop_number}
use Rattle.smp_stop_steps.specs.Value.{StopShown, StopsValue, stop_control_of}
use Rattle.smp_stop_steps.specs.Start.{stop_started}
use Rattle.smp_stop_steps.specs.State.{StopState}
use Rattle.smp_stop_steps.specs.declared.stage.StopStage.{StopStage}
use Rattle.smp_stop_steps.proofs.Promises.StopLaws.{keeps_laws}
use Rattle.smp_stop_steps.proofs.TheMachine.Made.{made_sound, made_told}
use Rattle.smp_stop_steps.proofs.TheMachine.Started.{started_sound}
use Rattle.smp_core.specs.Machine.{Stepped, step_at, step_of, stepped, stops_stepped}
use Rattle.smp_core.specs.Sound.{IsSound}
use Rattle.smp_core.specs.Start.{refusal_of, started}
use Rattle.smp_core.specs.Value.{CoreValue}
use Rattle.smp_core.specs.Whole.{IsWhole, KeepsLaws}
use Rattle.smp_core.proofs.Joined.{handles_shown, joined_started, joined_stepped, joined_stop_stepped}
use Rattle.smp_core.proofs.Offline.{leaves_offline, start_apart, step_apart}
use Rattle.smp_core.proofs.OfflineStops.{leaves_offline_stops, start_stops_apart, started_told, step_stops_apart}
use Rattle.smp_core.proofs.Starts.{may_start, start_below, started_keeps, started_shown}

-- a step of the stop half
module _ (nr online : ℕ) (words : List ℕ) (controls : List ControlValue) (v : StopsValue) (cpu : ℕ) (sound : IsSound nr online words controls v) where
  sound_stepped : (stage : StopStage) → (stop_control_of v.controls cpu).stage ≡ Some stage → StopTold v cpu stage (stop_stepped v cpu stage) →
      IsSound nr online words controls (stop_stepped v cpu stage)
  sound_stepped stage e told = record {
    limits = sound.limits;
    table = sound.table;
    stops_nr = sound.stops_nr;
    stops_online = sound.stops_online;
    apart = sound.apart;
    stops_apart = step_stops_apart v cpu sound.stops_apart stage e told;
    joined = joined_stop_stepped controls v.controls cpu stage _ e sound.joined;
  }

  after : (v' : StopsValue) (seen : Option Seen) (o : Option StopStage) → (stop_control_of v.controls cpu).stage ≡ o →
      MatchOption o ((seen ≡ None) × (v' ≡ v)) (λ stage. IsStepOf v cpu stage seen v') →
      MatchOption o (v' ≡ v) (λ stage. StopTold v cpu stage v') → IsSound nr online words controls v'
  after v' seen None e step told = subst (IsSound nr online words controls) (sym told) sound
  after v' seen (Some stage) e step told = subst (IsSound nr online words controls) (sym step.1)
      (sound_stepped stage e (subst (StopTold v cpu stage) step.1 told))

-- as the half promises it
pub sound_after : (nr online : ℕ) (words : List ℕ) (controls : List ControlValue) (v v' : StopsValue) (cpu : ℕ) (seen : Option Seen) →
    IsSound nr online words controls v →
    MatchOption (stop_control_of v.controls cpu).stage ((seen ≡ None) × (v' ≡ v)) (λ stage. IsStepOf v cpu stage seen v') →
    MatchOption (stop_control_of v.controls cpu).stage (v' ≡ v) (λ stage. StopTold v cpu stage v') → IsSound nr online words controls v'
sound_after nr online words controls v v' cpu seen sound step told = after nr online words controls v cpu sound v' seen
    (stop_control_of v.controls cpu).stage refl step told

-- a step of the call half
pub sound_called : (nr online : ℕ) (words : List ℕ) (controls : List ControlValue) (v : StopsValue) (cpu : ℕ) (stage : Stage) →
    IsSound nr online words controls v → (control_of controls cpu).stage ≡ Some stage →
    let access = access_of (number_in words) cpu stage in
    IsSound nr online (words_after words access)
    (slice_set controls cpu (control_after (control_of controls cpu) stage (number_in words (word_of access)))) v
sound_called nr online words controls v cpu stage sound e =
    let table = sound.table in
    let access = access_of (number_in words) cpu stage in
    let found = number_in words (word_of access) in
    let seen = seen_of cpu access found (outcome_of (control_of controls cpu).drain stage found).note in
    record {
      limits = sound.limits;
      table = record {
        words_sized = length-words_after words access ∙ table.words_sized;
        controls_sized = length-set controls cpu _ ∙ table.controls_sized;
        calls = tells table.calls seen;
        shown = made_shown table.calls words controls cpu stage access found seen _ _
            record { at_stage = e; is_access = refl; is_found = refl; is_words = refl; is_control = refl; is_seen = refl }
            table.words_sized table.controls_sized table.shown;
      };
      stops_nr = sound.stops_nr;
      stops_online = sound.stops_online;
      apart = step_apart online words controls cpu table.controls_sized sound.apart stage table.words_sized e;
      stops_apart = sound.stops_apart;
      joined = joined_stepped controls cpu table.controls_sized v.controls stage found e sound.joined;
    }

-- the beginning of a command
pub sound_started : (core : CoreValue) (cpu : ℕ) (c : Command) → IsSound core.nr core.online core.words core.controls core.stops → FitsCommand c →
    refusal_of core cpu c ≡ None → ((p : StopState) → StopShown p core.stops → StopShown p (stop_started core.stops cpu c)) →
    IsSound core.nr core.online core.words (slice_set core.controls cpu (control_at (control_of core.controls cpu) (first_stage core.online cpu c)))
    (stop_started core.stops cpu c)
sound_started core cpu c sound fits allowed told =
    let table = sound.table in
    let m = may_start core cpu c allowed in
    let low = start_below core cpu c sound.limits allowed in
    record {
      limits = sound.limits;
      table = record {
        words_sized = table.words_sized;
        controls_sized = length-set core.controls cpu _ ∙ table.controls_sized;
        calls = table.calls;
        shown = started_shown table.calls core cpu c sound.limits table.controls_sized allowed fits table.shown;
      };
      stops_nr = (started_keeps core.stops cpu c).0 ∙ sound.stops_nr;
      stops_online = (started_keeps core.stops cpu c).1 ∙ sound.stops_online;
      apart = start_apart core.online core.words core.controls cpu table.controls_sized sound.apart core.nr c low m.is_online m.is_allowed
          (started_shown sound.apart.calls core cpu c sound.limits table.controls_sized allowed fits sound.apart.shown);
      stops_apart = start_stops_apart core.stops cpu sound.stops_apart c (rw sound.stops_online m.is_online) told;
      joined = joined_started core.controls core.stops cpu core.online c table.controls_sized low m.is_stop_outside m.is_stop_allowed sound.joined;
    }

module _ (core : CoreValue) (cpu : ℕ) (w : IsWhole core) where
  in_calls : (stage : Stage) → (control_of core.controls cpu).stage ≡ Some stage → IsWhole (stepped core cpu stage)
  in_calls stage e = record { sound = sound_called core.nr core.online core.words core.controls core.stops cpu stage w.sound e; stops = w.stops }

  in_stops : (stage : StopStage) → (stop_control_of core.stops.controls cpu).stage ≡ Some stage → IsWhole (stops_stepped core cpu stage)
  in_stops stage e = record {
    sound = sound_stepped core.nr core.online core.words core.controls core.stops cpu w.sound stage e (made_told core.stops w.stops cpu stage
        (stop_seen_at core.stops cpu stage) _ _ record { at_stage = e; is_table = refl; is_controls = refl; is_seen = refl });
    stops = made_sound core.stops w.stops cpu stage (stop_seen_at core.stops cpu stage) _ _
        record { at_stage = e; is_table = refl; is_controls = refl; is_seen = refl };
  }

  at_whole : (a : Option Stage) (b : Option StopStage) → (control_of core.controls cpu).stage ≡ a → (stop_control_of core.stops.controls cpu).stage ≡ b →
      IfSome (step_at core cpu a b) (λ s. IsWhole s.core)
  at_whole (Some stage) b here there = in_calls stage here
  at_whole None (Some stage) here there = in_stops stage there
  at_whole None None here there = tt

  pub step_whole : (s : Stepped) → step_of core cpu ≡ Some s → IsWhole s.core
  step_whole s made = subst (λ o. IfSome o (λ s. IsWhole s.core)) made
      (at_whole (control_of core.controls cpu).stage (stop_control_of core.stops.controls cpu).stage refl refl)

  pub start_whole : (c : Command) → FitsCommand c → refusal_of core cpu c ≡ None → IsWhole (started core cpu c)
  start_whole c fits allowed =
      let m = may_start core cpu c allowed in
      let low = start_below core cpu c w.sound.limits allowed in
      let online : has core.stops.online cpu ≡ true = rw w.sound.stops_online m.is_online in
      let below : (k : ℕ) → has core.stops.online k ≡ true → k < cpus =
      λ k on. online_below core.nr core.online k w.sound.limits (subst (λ o. has o k ≡ true) w.sound.stops_online on) in
      record {
        sound = sound_started core cpu c w.sound fits allowed (started_told core.stops w.stops cpu low m.is_stop_outside below online c fits m.is_stop_allowed);
        stops = started_sound core.stops w.stops cpu low m.is_stop_outside below online c fits m.is_stop_allowed;
      }

pub whole_keeps : (core : CoreValue) → IsWhole core → KeepsLaws core
whole_keeps core w =
    let p = w.stops.stops in
    let shown = w.stops.shown in
    record {
      calls = w.sound.table.calls;
      shows_calls = w.sound.table.shown;
      offline = leaves_offline core.online core.words core.controls w.sound.apart;
      offline_stops = leaves_offline_stops core.stops w.sound.stops_apart core.online w.sound.stops_online;
      stops = p;
      shows_stops = shown;
      stop_laws = keeps_laws _ p (stop_number core.stops.table) shown.seat shown.source shown.shows;
      handles = handles_shown core.controls core.stops w.sound.table.controls_sized w.sound.joined p shown;
    }
