-- What the code of a step makes of the stop half of a machine.
use Rattle.std.proofs.{Common.◌≡◌, Common.ℕ, Common.Some, Common.List, Common.sym, Common.subst, Common.refl, Common.arith, lemmas.List.length-set}
use Rattle.smp_stop_steps.specs.{StopState, tells, answer_at, StopWords, stop_number, StopsValue, StopsShow, IsStopTable, setup_of, AreI32Words, StopStage}
use Rattle.smp_stop_steps.specs.{StopControlValue, stop_outcome, stop_control_of, AreSoundStops, stop_found_at, stop_seen_at, stop_stepped, HasI32Answers, Seen}
use Rattle.smp_stop_steps.proofs.TheMachine.Values.{stop_inside_below, stop_value_shown, stop_table_shown, stop_phases_kept, stop_results_kept}
use Rattle.smp_stop_steps.proofs.{Steps.StateWords.ArePhases, Steps.AnswerWords.keeps_answers, TheMachine.Answered.answers_set}

pub record StopMade (v : StopsValue) (cpu : ℕ) (stage : StopStage) (seen : Seen) (table' : StopWords) (controls' : List StopControlValue) : Type 0 where
  pub at_stage : (stop_control_of v.controls cpu).stage ≡ Some stage
  pub is_table : table' ≡ (stop_stepped v cpu stage).table
  pub is_controls : controls' ≡ (stop_stepped v cpu stage).controls
  pub is_seen : seen ≡ stop_seen_at v cpu stage

module _ (v : StopsValue) (sound : AreSoundStops v.online v.labels v.table v.controls) (cpu : ℕ) (stage : StopStage) (seen : Seen) (table' : StopWords)
    (controls' : List StopControlValue) (m : StopMade v cpu stage seen table' controls') where
  pub made_told : (p : StopState) → StopsShow (setup_of v.online v.labels) p v.table v.controls → StopsShow (setup_of v.online v.labels)
      (tells (setup_of v.online v.labels) p (stop_seen_at v cpu stage) (answer_at stage)) table' controls'
  made_told p shown = search (v.online, stop_value_shown, v.table, sound.sized, sound.table_is, arith)

  pub made_sound : AreSoundStops v.online v.labels table' controls'
  made_sound = let table_is' = subst IsStopTable (sym m.is_table) (stop_table_shown (setup_of v.online v.labels) refl sound.stops v.table v.controls sound.shown
      sound.sized sound.table_is cpu stage m.at_stage) in
      let phases' = subst (λ (t : StopWords). ArePhases (stop_number t)) (sym m.is_table) (stop_phases_kept (setup_of v.online v.labels) refl sound.stops
      v.table v.controls sound.shown sound.sized sound.table_is cpu stage m.at_stage sound.phases) in
      let results' = subst (λ (t : StopWords). AreI32Words (stop_number t)) (sym m.is_table) (stop_results_kept (setup_of v.online v.labels) refl sound.stops
      v.table v.controls sound.shown sound.sized sound.table_is cpu stage m.at_stage sound.results (sound.answers cpu)) in
      let answers' = subst (λ (x : List StopControlValue). (k : ℕ) → HasI32Answers (stop_control_of x k)) (sym m.is_controls) (answers_set v.controls cpu
      (stop_outcome cpu (stop_control_of v.controls cpu) stage (stop_found_at v cpu stage)).control (stop_inside_below v.controls cpu stage m.at_stage)
      sound.answers (keeps_answers (setup_of v.online v.labels) (stop_number v.table) sound.results (stop_control_of v.controls cpu) cpu (sound.answers
      cpu) stage m.at_stage).goes.control) in
      search (table_is', phases', results', answers', length-set, made_told sound.stops sound.shown, arith)
