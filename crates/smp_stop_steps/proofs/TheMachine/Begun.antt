-- A command that may begin begins where its CPU sits, and changes no stop.
use Rattle.std.proofs.Common.{◌≡◌, ℕ, ◌<◌, cond, sym, subst, inl, arith, Option, Some, None, List, length}
use Rattle.std.specs.Prelude.{slice_set}
use Rattle.smp_words.proofs.Puts.{at_test, put_all}
use Rattle.smp_words.specs.declared.field.Field.TheVariants.{Kind}
use Rattle.smp_stop_steps.specs.{put, MayBegin, Rests, StopRole, StopShows, OwnsIf, SitsAtRest, SitsIn, SourceSits, Shut, Source, StopControlValue, stop_goes}
use Rattle.smp_stop_steps.specs.{Setup, StopState, StopWords, stop_number, StopsShow, stop_control_of, Advance, Begin, Complete, Enter, LoadDone, OpenGate}
use Rattle.smp_stop_steps.specs.{NudgeKey, TakeGate, StopStage, Visit, Gate, Word, CarriesIn, Calling, Sits.ControlFits, CompletionStage, RoundStage}
use Rattle.smp_stop_steps.specs.declared.stage.StopStage.TheVariants.{ReadKey, ReadSite}
use Rattle.smp_stop_steps.proofs.{State.Gates.gate_mine, Steps.Same.put_same_fn, TheMachine.Values.stop_controls_by_cpu}

module _ (u : Setup) (p : StopState) (at : Word → ℕ) (seat : ℕ → StopRole) (source : ℕ → Source) (h : StopShows u p at seat source) (c : StopControlValue)
    (me : ℕ)
    (s : ControlFits u me (at Gate) c (seat me) (source me)) (outside : c.stage ≡ None) where
  at_rest : SitsAtRest c.visit (seat me)
  at_rest = search arith

  owns_if : OwnsIf c.is_open (source me)
  owns_if = subst (λ (st : Option StopStage). SourceSits c.is_open st (source me)) outside s.source

  in_visit : (v : Visit) → c.visit ≡ Some v → SitsIn v v.acked Rests (seat me)
  in_visit v e = search arith

  -- the source after it, and what the words show then
  abbrev BegunShown : StopStage → Type 0
  BegunShown stage = (y : Source) × (StopShows u p at seat (put source me y)) × ControlFits u me (at Gate) (stop_goes c stage).control (seat me) y

  -- a command of a source that stays as it was
  begun_same : (stage : StopStage) → ControlFits u me (at Gate) (stop_goes c stage).control (seat me) (source me) → BegunShown stage
  begun_same stage sits = (source me, subst (λ x. StopShows u p at seat x) (sym (put_same_fn source me)) h, sits)

  pub begun_shown : (stage : StopStage) → MayBegin u me (at Gate) c stage → BegunShown stage
  begun_shown TakeGate m = begun_same TakeGate (search (at_rest, owns_if, arith))
  begun_shown OpenGate m = begun_same OpenGate (search (at_rest, owns_if, arith))
  begun_shown (Begin work Kind) m = search (owns_if, h.sources, put_all, gate_mine, at_rest, arith)
  begun_shown (Enter slot) m = begun_same (Enter slot) (search (at_rest, owns_if, arith))
  begun_shown (Advance v (RoundStage.Look answer)) m = begun_same (Advance v (RoundStage.Look answer)) (search (in_visit, owns_if, arith))
  begun_shown (Complete v (CompletionStage.LoadFunc answer)) m = begun_same (Complete v (CompletionStage.LoadFunc answer)) (search (in_visit, owns_if, arith))
  begun_shown (Complete v CompletionStage.StoreAnswer) m = begun_same (Complete v CompletionStage.StoreAnswer) (search (in_visit, owns_if, inl, arith))
  begun_shown (Complete v CompletionStage.CountDown) m = begun_same (Complete v CompletionStage.CountDown) (search (in_visit, owns_if, inl, arith))
  begun_shown LoadDone m = begun_same LoadDone (search (at_rest, owns_if, arith))
  begun_shown (ReadKey k) m = begun_same (ReadKey k) (search (at_rest, owns_if, arith))
  begun_shown (ReadSite i) m = begun_same (ReadSite i) (search (at_rest, owns_if, arith))
  begun_shown (NudgeKey k up) m = begun_same (NudgeKey k up) (search (at_rest, owns_if, arith))
  begun_shown _ m = absurd m

-- the CPU's function is where its first stage says
begun_carries : (u : Setup) (c : StopControlValue) (me gate : ℕ) → c.stage ≡ None → (f : Calling) → CarriesIn c f → (stage : StopStage) →
    MayBegin u me gate c stage → CarriesIn (stop_goes c stage).control f
begun_carries u c me gate outside f k stage m = search (k, arith)

-- over a stop half
pub begun_value_shown : (u : Setup) (p : StopState) (t : StopWords) (controls : List StopControlValue) → StopsShow u p t controls → (me : ℕ) → me < u.cpus →
    me < length controls → (stage : StopStage) →
    (stop_control_of controls me).stage ≡ None → MayBegin u me (stop_number t Gate) (stop_control_of controls me) stage →
    StopsShow u p t (slice_set controls me (stop_goes (stop_control_of controls me) stage).control)
begun_value_shown u p t controls v me below low stage outside m = let c = stop_control_of controls me in
    let b = begun_shown u p (stop_number t) v.seat v.source v.shows c me (v.sits me below) outside stage m in
    record {
      seat = v.seat;
      source = put v.source me b.0;
      shows = b.1;
      sits = λ cpu small. subst (λ k. ControlFits u cpu (stop_number t Gate) k (v.seat cpu) (put v.source me b.0 cpu))
          (sym (stop_controls_by_cpu controls me cpu (stop_goes c stage).control low))
          (at_test cpu me (λ d. ControlFits u cpu (stop_number t Gate) (cond d (stop_goes c stage).control (stop_control_of controls cpu)) (v.seat cpu)
          (cond d b.0 (v.source cpu)))
          (λ same. subst (λ k. ControlFits u k (stop_number t Gate) (stop_goes c stage).control (v.seat k) b.0) (sym same) b.2) (λ ne. v.sits cpu small));
      carries = λ cpu small. subst (λ k. CarriesIn k (p.calling cpu)) (sym (stop_controls_by_cpu controls me cpu (stop_goes c stage).control low))
          (at_test cpu me (λ d. CarriesIn (cond d (stop_goes c stage).control (stop_control_of controls cpu)) (p.calling cpu))
          (λ same. subst (λ k. CarriesIn (stop_goes c stage).control (p.calling k)) (sym same) (begun_carries u c me (stop_number t Gate) outside
          (p.calling me) (v.carries me below) stage m))
          (λ ne. v.carries cpu small));
      shut = λ cpu high. at_test cpu me (λ d. cond d b.0 (v.source cpu) ≡ Shut) (λ same. absurd (omega arith)) (λ _. v.shut cpu high);
    }
