-- A stop half stays whole where a command begins.
use Rattle.std.proofs.Common.{◌≡◌, ℕ, ◌<◌, true, Option, Some, None, length, refl, ◌∙◌, arith}
use Rattle.std.proofs.lemmas.List.{length-set}
use Rattle.smp_words.specs.Commands.{FitsCommand}
use Rattle.smp_stop_steps.specs.{has, cpus, Command, AnswersFit, MayBeginAt, stop_begun, IsSoundHalf, stop_begun_if, stop_first, stop_refusal, stop_started}
use Rattle.smp_stop_steps.specs.{StopsValue, setup_of, stop_control_of, StopStage}
use Rattle.smp_stop_steps.proofs.TheMachine.Answered.{answers_set, first_fits}
use Rattle.smp_stop_steps.proofs.{TheMachine.Begun.begun_value_shown, TheMachine.Starting.may_begin}

module _ (v : StopsValue) (sound : IsSoundHalf v) (cpu : ℕ) (low : cpu < cpus) (outside : (stop_control_of v.controls cpu).stage ≡ None) where
  -- at a stage at which a CPU outside a command may begin
  begun_sound : (stage : StopStage) → MayBeginAt v cpu stage → AnswersFit stage → IsSoundHalf (stop_begun v cpu stage)
  begun_sound stage may fits = let sized : length v.controls ≡ cpus = sound.sized in
      let long : cpu < length v.controls = omega (arith, low, sized) in
      record {
        sized = length-set v.controls cpu _ ∙ sized;
        table_is = sound.table_is;
        phases = sound.phases;
        results = sound.results;
        answers = answers_set v.controls cpu _ long sound.answers record { visit = (sound.answers cpu).visit; stage = fits };
        stops = sound.stops;
        shown = begun_value_shown (setup_of v.online v.labels) sound.stops v.table v.controls sound.shown cpu low long stage outside may;
      }

  -- at the first stage of a command that may start
  pub started_sound : ((k : ℕ) → has v.online k ≡ true → k < cpus) → has v.online cpu ≡ true → (c : Command) → FitsCommand c →
      stop_refusal v cpu c ≡ None → IsSoundHalf (stop_started v cpu c)
  started_sound below online c fits allowed = go (stop_first (stop_control_of v.controls cpu) c) refl
    where
      go : (o : Option StopStage) → stop_first (stop_control_of v.controls cpu) c ≡ o → IsSoundHalf (stop_begun_if v cpu o)
      go None first = sound
      go (Some stage) first = search (begun_sound, may_begin, first_fits, sound.answers, arith)
