-- A step of one half tells nothing of the other.
use Rattle.std.proofs.Common.{◌≡◌, ℕ, Option, Some, None, Result, Ok, Err, List, refl, sym, subst, ◌∙◌, arith}
use Rattle.std.specs.Prelude.{IfSome, MatchOption}
use Rattle.smp_words.specs.Access.{seen_of, word_of}
use Rattle.smp_call_steps.specs.Calls.{CallState}
use Rattle.smp_call_steps.specs.Calls as calls
use Rattle.smp_words.specs.Layout.{number_in}
use Rattle.smp_core.specs.Machine.{Stepped, seen_at, stepped, step_of, stops_stepped, setup_in, CallsTold, StopNotesFit, StopsTold}
use Rattle.smp_call_steps.specs.Stages.{access_of}
use Rattle.smp_stop_steps.specs.Labels.{Change}
use Rattle.smp_stop_steps.specs.Machine.{StopTold, stop_seen_at, stop_stepped}
use Rattle.smp_stop_steps.specs.Notes.{StopNoteFits}
use Rattle.smp_stop_steps.specs.StepLaws.{StopNoteTold}
use Rattle.smp_stop_steps.specs.Stages.{stop_access, store_of}
use Rattle.smp_stop_steps.specs.State.{Setup, StopState}
use Rattle.smp_stop_steps.specs.Tells as stops
use Rattle.smp_stop_steps.specs.Value.{StopsValue, StopShown, stop_control_of}
use Rattle.smp_core.specs.Replay.{step_turn, turn_of}
use Rattle.smp_core.specs.Value.{CoreValue, Shown}
use Rattle.smp_call_steps.specs.Value.{control_of}
use Rattle.smp_mask.specs.declared.error.SmpError.{SmpError}
use Rattle.smp_mask.specs.declared.error.SmpError.TheVariants as error
use Rattle.smp_words.specs.declared.command.Event.TheVariants as event
use Rattle.smp_words.specs.declared.seen.Note.{Note}
use Rattle.smp_words.specs.declared.seen.Seen.{Seen}
use Rattle.smp_call_steps.specs.declared.stage.Stage.{Stage}
use Rattle.smp_stop_steps.specs.declared.stage.StopStage.{StopStage}
use Rattle.smp_words.specs.declared.word.Word.{Word}

module _ (u : Setup) (p : StopState) (me answer found : ℕ) (note : Option Note) where
  pub call_step_apart : (at : Word → ℕ) (stage : Stage) → stops.tells u p (seen_of me (access_of at me stage) found note) answer ≡ p
  call_step_apart at stage = search arith

  -- and its note nothing of the stops
  notes_of_call : (said : Option Note) (at : Word → ℕ) (stage : Stage) → StopNoteFits p p me (word_of (access_of at me stage)) said
  notes_of_call said at stage = search arith

module _ (a : CallState) (me found : ℕ) (note : Option Note) where
  in_patch : (change : Change) → calls.tells a (seen_of me (store_of change) found note) ≡ a
  in_patch change = search arith

  pub stop_step_apart : (n : ℕ) (changes : List Change) (stage : StopStage) → calls.tells a (seen_of me (stop_access n me changes stage) found note) ≡ a
  stop_step_apart n changes stage = search (in_patch, arith)

-- a step of the call half keeps the stops that the core shows
pub stops_kept : (core : CoreValue) (cpu : ℕ) (stage : Stage) → StopsTold core (seen_at core cpu stage) 0 (stepped core cpu stage)
stops_kept core cpu stage p shown =
    subst (λ q. StopShown q core.stops) (sym (call_step_apart (setup_in core) p cpu 0 _ (seen_at core cpu stage).note (number_in core.words) stage)) shown

pub stop_notes_kept : (core : CoreValue) (cpu : ℕ) (stage : Stage) → StopNotesFit core (seen_at core cpu stage) 0
stop_notes_kept core cpu stage p shown =
    let said = (seen_at core cpu stage).note in
    subst (λ q. StopNoteFits p q cpu (seen_at core cpu stage).word said) (sym (call_step_apart (setup_in core) p cpu 0 _ said (number_in core.words) stage))
    (notes_of_call (setup_in core) p cpu 0 0 said said (number_in core.words) stage)

-- a step of the stop half keeps the calls that the core shows
pub calls_kept : (core : CoreValue) (cpu : ℕ) (stage : StopStage) → CallsTold core (stop_seen_at core.stops cpu stage) (stops_stepped core cpu stage)
calls_kept core cpu stage a shown = subst (λ b. Shown b core) (sym (stop_step_apart a cpu _ (stop_seen_at core.stops cpu stage).note _ _ stage)) shown

-- a step of a CPU that is in the stop half: its stage, what is seen of it, and what it tells
pub record IsStopStep (core : CoreValue) (cpu : ℕ) (seen : Seen) (new : StopsValue) : Type 0 where
  pub stage : StopStage
  pub at_stage : (stop_control_of core.stops.controls cpu).stage ≡ Some stage
  pub seen_is : seen ≡ stop_seen_at core.stops cpu stage
  pub told : StopTold core.stops cpu stage new
  pub noted : StopNoteTold core.stops cpu stage

pub is_stop_step : (core : CoreValue) (cpu : ℕ) (r : Option Seen) (seen : Seen) (new : StopsValue) → r ≡ Some seen →
    MatchOption (stop_control_of core.stops.controls cpu).stage ((r ≡ None) × (new ≡ core.stops))
    (λ stage. (r ≡ Some (stop_seen_at core.stops cpu stage)) × (new ≡ stop_stepped core.stops cpu stage)) →
    MatchOption (stop_control_of core.stops.controls cpu).stage (new ≡ core.stops) (λ stage. StopTold core.stops cpu stage new) →
    IfSome (stop_control_of core.stops.controls cpu).stage (StopNoteTold core.stops cpu) → IsStopStep core cpu seen new
is_stop_step core cpu r seen new is step told noted = go (stop_control_of core.stops.controls cpu).stage refl step told noted
  where
    go : (x : Option StopStage) → (stop_control_of core.stops.controls cpu).stage ≡ x →
        MatchOption x ((r ≡ None) × (new ≡ core.stops)) (λ stage. (r ≡ Some (stop_seen_at core.stops cpu stage)) × (new ≡ stop_stepped core.stops cpu stage)) →
        MatchOption x (new ≡ core.stops) (λ stage. StopTold core.stops cpu stage new) → IfSome x (StopNoteTold core.stops cpu) → IsStopStep core cpu seen new
    go None e s t n = absurd (let bad : Some seen ≡ None = sym is ∙ s.0 in cc)
    go (Some stage) e s t n = record {
      stage = stage;
      at_stage = e;
      seen_is = let both : Some seen ≡ Some (stop_seen_at core.stops cpu stage) = sym is ∙ s.0 in cc;
      told = t;
      noted = n;
    }

-- it keeps the calls that the core shows
pub calls_told : (core : CoreValue) (cpu : ℕ) (seen : Seen) (new : StopsValue) → IsStopStep core cpu seen new
    → CallsTold core seen (record core { stops = new })
calls_told core cpu seen new s a shown = rw s.seen_is (calls_kept core cpu s.stage a shown)

-- and the new core shows the stops that it tells
pub stops_told : (core : CoreValue) (cpu : ℕ) (seen : Seen) (new : StopsValue) → (control_of core.controls cpu).stage ≡ None → IsStopStep core cpu seen new →
    IfSome (step_of core cpu) (λ s. StopsTold core seen s.answer (record core { stops = new }))
stops_told core cpu seen new none s = rw (none, s.at_stage, s.seen_is) s.told

-- and its note says what it has changed of them
pub stop_noted : (core : CoreValue) (cpu : ℕ) (seen : Seen) (new : StopsValue) → (control_of core.controls cpu).stage ≡ None → IsStopStep core cpu seen new →
    IfSome (step_of core cpu) (λ s. StopNotesFit core seen s.answer)
stop_noted core cpu seen new none s = rw (none, s.at_stage, s.seen_is) s.noted

-- what holds by the answer of a step holds by that of an event that is this step, of either half
pub turned : (core : CoreValue) (cpu : ℕ) (r : Result Seen SmpError) (seen : Seen) (new : CoreValue) (P : ℕ → Type 0) → r ≡ Ok seen →
    MatchOption (step_of core cpu) ((r ≡ Err error.IdleStep) × (new ≡ core)) (λ s. (r ≡ Ok s.seen) × (new ≡ s.core)) →
    IfSome (step_of core cpu) (λ s. P s.answer) → P (turn_of core (event.Step cpu)).answered
turned core cpu r seen new P is step holds = go (step_of core cpu) step holds
  where
    go : (x : Option Stepped) → MatchOption x ((r ≡ Err error.IdleStep) × (new ≡ core)) (λ s. (r ≡ Ok s.seen) × (new ≡ s.core)) →
        IfSome x (λ s. P s.answer) → P (step_turn core x).answered
    go None s t = absurd (let bad : Ok seen ≡ Err error.IdleStep = sym is ∙ s.0 in cc)
    go (Some x) s t = t
