-- The steps at the ends of a stop for one CPU, by its stage; and all steps.
use Rattle.std.proofs.Common.{◌≡◌, ℕ, ◌-◌, ◌<◌, Bool, true, false, eq-eqb, eqb-true, ◌==◌, cond, sym, subst, refl, ap, ◌∙◌, ◌⊎◌, inl, inr, arith, ⊎_elim}
use Rattle.std.proofs.Common.{Option, Some, None, bit_and}
use Rattle.smp_words.specs.declared.field.Field.TheVariants.{Roll, Todo}
use Rattle.smp_stop_steps.specs.{IsCalling, answer_in, put, put_word, one, Closes, Free, Gives, In, Rests, StopRole, irq_of, StopShows, IsLoaded, IsThroughAll}
use Rattle.smp_stop_steps.specs.{OwnsIf, SitsAtRest, Source, StopControlValue, all_but, stop_ends, stop_goes, Setup, StopState, Calling, StopStep, at_then}
use Rattle.smp_stop_steps.specs.{state_after, Advance, Begin, Close, Complete, Enter, EnterActive, EnterKind, EnterMask, LoadDone, LoadResult, OpenGate, Note}
use Rattle.smp_stop_steps.specs.{TakeGate, NudgeKey, ExchangeKey, StopStage, Visit, One, Work, Gate, Slot, Word, has, CarriesIn}
use Rattle.smp_stop_steps.specs.{CarriesAt, IsEnding, Sits.ControlFits}
use Rattle.smp_stop_steps.specs.declared.stage.StopStage.TheVariants.{ReadKey, ReadSite}
use Rattle.smp_stop_steps.proofs.Steps.Same.{word_same, moved_seat, still}
use Rattle.smp_stop_steps.proofs.Steps.Completions.{done_stored, on_now, result_stored, roll_cleared, roll_stale, todo_subtracted, todo_subtracted_answered}
use Rattle.smp_stop_steps.proofs.Steps.Facts.{high_none, todo_bounds, todo_bounds_answered, arg_loaded, work_words}
use Rattle.smp_stop_steps.proofs.Steps.RoundSteps.{ack_small, load_arg, load_entry, load_func, load_key, look, store_change}
use Rattle.smp_stop_steps.proofs.Steps.StageSteps.{begin_step, enter_active, enter_kind, enter_mask, less_one, load_done, load_result, open_gate, read_key}
use Rattle.smp_stop_steps.proofs.Steps.StageSteps.{read_site, take_gate, nudge_key, exchange_key}
use Rattle.smp_stop_steps.proofs.{Steps.AckSteps.acknowledge, Steps.AckSteps.raise, Steps.AckSteps.refill, Basics.Bits.clear_none, Basics.Bits.clear_other}
use Rattle.smp_stop_steps.proofs.{Basics.Bits.clear_same, Steps.Callings.calling_given, Steps.Stages.at_seat, Steps.Stages.at_source}
use Rattle.smp_stop_steps.specs.completion
use Rattle.smp_stop_steps.specs.round
use Rattle.smp_stop_steps.specs.Names.{EXIT}

module _ (u : Setup) (p : StopState) (at : Word → ℕ) (seat : ℕ → StopRole) (source : ℕ → Source) (h : StopShows u p at seat source) (c : StopControlValue)
    (me : ℕ)
    (s : ControlFits u me (at Gate) c (seat me) (source me)) where
  enter : (slot : ℕ) → c.stage ≡ Some (Enter slot) → StopStep u p at seat source c me (Enter slot)
  enter slot e = let x = at_seat s (Enter slot) e in
      let g = go x.0 x.1 (at_source s (Enter slot) e) (has (at (Slot slot Roll)) me) refl in
      record { seat_after = g.0; source_after = source me; shows = g.1; sits = g.2 }
    where
      low : me < 64
      low = omega arith

      go : c.visit ≡ None → seat me ≡ Free → OwnsIf c.is_open (source me) → (b : Bool) → has (at (Slot slot Roll)) me ≡ b →
          (x : StopRole) × (StopShows u (state_after u p at c me (Enter slot)) (at_then u at c me (Enter slot)) (put seat me x) (put source me (source me))) ×
          ControlFits u me (at Gate) (cond b (stop_goes c (EnterKind slot)) (stop_ends c Note.Stale)).control x (source me)
      go visit is y true found = let next = In slot (p.now.stop slot).work 0 0 Rests in (
        next,
        moved_seat u seat source me (state_after u p at c me (Enter slot)) (at_then u at c me (Enter slot)) next
            (roll_cleared u p at seat source h slot me (bit_and (at (Slot slot Roll)) (all_but me)) 0 is found (clear_same (at (Slot slot Roll)) me low)
            (λ d ne. clear_other (at (Slot slot Roll)) me d low ne (high_none u p at seat source h slot d))),
        record { below = s.below; irq = s.irq ∙ ap irq_of is; seat = ((p.now.stop slot).work, refl); source = y; gate_held = tt },
      )
      go visit is y false missing = (
        seat me,
        still u seat source me (state_after u p at c me (Enter slot)) (at_then u at c me (Enter slot))
            (subst (λ n. StopShows u (state_after u p at c me (Enter slot)) (put_word at (Slot slot Roll) n) seat source)
            (sym (clear_none (at (Slot slot Roll)) me low missing (high_none u p at seat source h slot)))
            (subst (λ (x : Word → ℕ). StopShows u (state_after u p at c me (Enter slot)) x seat source) (sym (word_same at (Slot slot Roll)))
            (roll_stale u p at seat source h slot me (Some (bit_and (at (Slot slot Roll)) (all_but me))) 0 missing))),
        record { below = s.below; irq = s.irq; seat = subst (λ x. SitsAtRest x (seat me)) (sym visit) is; source = y; gate_held = tt },
      )

  close : (slot : ℕ) → c.stage ≡ Some (Close slot) → StopStep u p at seat source c me (Close slot)
  close slot e = let x = at_seat s (Close slot) e in
      let shows' = moved_seat u seat source me (state_after u p at c me (Close slot)) (at_then u at c me (Close slot)) Free (search (done_stored, arith)) in
      search (shows', at_source, arith)

  module _ (v : Visit) where
    one_func : (answer : ℕ) → c.stage ≡ Some (Complete v (completion.LoadFunc answer)) → StopStep u p at seat source c me
        (Complete v (completion.LoadFunc answer))
    one_func answer e =
        record { seat_after = seat me; source_after = source me; shows = still u seat source me p at h; sits = search (work_words, at_source, arith) }

    one_arg : (answer func : ℕ) → c.stage ≡ Some (Complete v (completion.LoadArg answer func)) → StopStep u p at seat source c me
        (Complete v (completion.LoadArg answer func))
    one_arg answer func e = let x = at_seat s (Complete v (completion.LoadArg answer func)) e in
        let shows' = still u seat source me (state_after u p at c me (Complete v (completion.LoadArg answer func))) at (arg_loaded u p at seat source h v.slot
        me x.1.1.0 v.acked v.acked Rests x.1.1.2 answer refl) in
        search (shows', (go x.1.0 x.1.1.0 x.1.1.1 x.1.1.2 (at_source s (Complete v (completion.LoadArg answer func)) e) (answer == 0) refl), arith)
      where
        go : v.kind ≡ One → (work : Work) → IsLoaded v work → seat me ≡ In v.slot work v.acked v.acked Rests → OwnsIf c.is_open (source me) → (b : Bool) →
            (answer == 0) ≡ b →
            ControlFits u me (at Gate) (record c {
              stage = Some (Complete (record v { answer = answer }) (cond b completion.CountDown completion.StoreAnswer));
              visit = Some (record v { answer = answer });
            }) (seat me) (source me)
        go one work loaded is y true z = search (eqb-true, arith)
        go one work loaded is y false z = search (eq-eqb, arith)

    through_of : (work : Work) → IsLoaded v work → IsThroughAll v → (v.acked ≡ EXIT) ⊎ (work.kind ≡ One)
    through_of work loaded t = ⊎_elim (λ (x : v.acked ≡ EXIT). inl x) (λ (x : v.kind ≡ One). inr (sym loaded.kind ∙ x)) t

    ends : (f : Calling) → IsEnding v f → v.answer ≡ answer_in f
    ends f is = search arith

    store_answer : CarriesIn c (p.calling me) → c.stage ≡ Some (Complete v completion.StoreAnswer) → StopStep u p at seat source c me
        (Complete v completion.StoreAnswer)
    store_answer k e = let x = at_seat s (Complete v completion.StoreAnswer) e in
        let some = x.1.0 in
        let work = x.1.2.0 in
        let is : seat me ≡ In v.slot work v.acked v.acked Rests = x.1.2.2 in
        let through = through_of work x.1.2.1 x.1.1 in
        let next = Gives v.slot work v.acked v.answer in
        record {
          seat_after = next;
          source_after = source me;
          shows = moved_seat u seat source me (state_after u p at c me (Complete v completion.StoreAnswer))
              (at_then u at c me (Complete v completion.StoreAnswer)) next
              (result_stored u p at seat source h v.slot me work v.acked v.acked is through v.answer 0 some
              (calling_given me v.slot work v.acked v.acked v.answer (p.calling me) some through
              (ends (p.calling me) (subst (λ (st : Option StopStage). CarriesAt c.visit st (p.calling me)) e k))
              (subst (λ x. IsCalling me x (p.calling me)) is (h.callings me))));
          sits = search (on_now, at_source, arith);
        }

    counted_sits : OwnsIf c.is_open (source me) → c.interrupts ≡ true → (b : Bool) →
        ControlFits u me (at Gate) (cond b (stop_goes (record c { visit = None }) (Close v.slot)) (stop_ends (record c { visit = None }) Note.Finished)).control
        (cond b (Closes v.slot) Free) (source me)
    counted_sits y on b = search arith

    count_down : c.stage ≡ Some (Complete v completion.CountDown) → StopStep u p at seat source c me (Complete v completion.CountDown)
    count_down e = let x = at_seat s (Complete v completion.CountDown) e in either x.1.0 x.1.1 (at_source s (Complete v completion.CountDown) e)
      where
        either : (work : Work) → (((v.answer ≡ 0) × IsLoaded v work × IsThroughAll v × (seat me ≡ In v.slot work v.acked v.acked Rests)) ⊎
            (seat me ≡ Gives v.slot work v.acked v.answer)) →
            OwnsIf c.is_open (source me) → StopStep u p at seat source c me (Complete v completion.CountDown)
        either work (inl (none, loaded, all, is)) y = let found = at (Slot v.slot Todo) in
            let through = through_of work loaded all in
            let next = cond (found == 1) (Closes v.slot) Free in
            let bounds = todo_bounds u p at seat source h v.slot me work v.acked v.acked Rests is in
            let less = less_one found bounds.0 (ack_small found u.cpus h.setup.few bounds.1) in
            let shows' = subst (λ n. StopShows u (state_after u p at c me (Complete v completion.CountDown)) (put_word at (Slot v.slot Todo) n) (put seat me
            next) (put source me (source me))) (sym less) (moved_seat u seat source me (state_after u p at c me (Complete v completion.CountDown))
            (put_word at (Slot v.slot Todo) (found - 1)) next (todo_subtracted u p at seat source h v.slot me work v.acked v.acked 0 is through)) in
            search (shows', (counted_sits y (s.irq ∙ on_now u p at seat source h v.slot me work v.acked v.acked is through) (found == 1)), arith)
        either work (inr is) y = let found = at (Slot v.slot Todo) in
            let next = cond (found == 1) (Closes v.slot) Free in
            let bounds = todo_bounds_answered u p at seat source h v.slot me work v.acked v.answer is in
            let less = less_one found bounds.0 (ack_small found u.cpus h.setup.few bounds.1) in
            let shows' = subst (λ n. StopShows u (state_after u p at c me (Complete v completion.CountDown)) (put_word at (Slot v.slot Todo) n) (put seat me
            next) (put source me (source me))) (sym less) (moved_seat u seat source me (state_after u p at c me (Complete v completion.CountDown))
            (put_word at (Slot v.slot Todo) (found - 1)) next (todo_subtracted_answered u p at seat source h v.slot me work v.acked v.answer 0 is)) in
            search (shows', (counted_sits y (s.irq ∙ ap irq_of is) (found == 1)), arith)

  -- any step of any command
  pub stop_step_shown : CarriesIn c (p.calling me) → (stage : StopStage) → c.stage ≡ Some stage → StopStep u p at seat source c me stage
  stop_step_shown carry TakeGate e = take_gate u p at seat source h c me s e
  stop_step_shown carry OpenGate e = open_gate u p at seat source h c me s e
  stop_step_shown carry (Begin work f) e = begin_step u p at seat source h c me s work f e
  stop_step_shown carry (Enter slot) e = enter slot e
  stop_step_shown carry (EnterKind slot) e = enter_kind u p at seat source h c me s slot e
  stop_step_shown carry (EnterMask slot kind) e = enter_mask u p at seat source h c me s slot kind e
  stop_step_shown carry (EnterActive slot kind mask) e = enter_active u p at seat source h c me s slot kind mask e
  stop_step_shown carry (Advance v (round.Look answer)) e = look u p at seat source h c me s v answer e
  stop_step_shown carry (Advance v (round.LoadFunc answer)) e = load_func u p at seat source h c me s v answer e
  stop_step_shown carry (Advance v (round.LoadArg answer func)) e = load_arg u p at seat source h c me s v answer func e
  stop_step_shown carry (Advance v (round.LoadKey key change)) e = load_key u p at seat source h c me s v key change e
  stop_step_shown carry (Advance v (round.LoadEntry key word site)) e = load_entry u p at seat source h c me s v key word site e
  stop_step_shown carry (Advance v (round.StoreChange made)) e = store_change u p at seat source h c me s v made e
  stop_step_shown carry (Advance v (round.Acknowledge answer ran)) e = acknowledge u p at seat source h c me s v carry answer ran e
  stop_step_shown carry (Advance v (round.Refill ran)) e = refill u p at seat source h c me s v ran e
  stop_step_shown carry (Advance v (round.Raise ran)) e = raise u p at seat source h c me s v ran e
  stop_step_shown carry (Complete v (completion.LoadFunc answer)) e = one_func v answer e
  stop_step_shown carry (Complete v (completion.LoadArg answer func)) e = one_arg v answer func e
  stop_step_shown carry (Complete v completion.StoreAnswer) e = store_answer v carry e
  stop_step_shown carry (Complete v completion.CountDown) e = count_down v e
  stop_step_shown carry (Close slot) e = close slot e
  stop_step_shown carry LoadDone e = load_done u p at seat source h c me s e
  stop_step_shown carry LoadResult e = load_result u p at seat source h c me s e
  stop_step_shown carry (ReadKey k) e = read_key u p at seat source h c me s k e
  stop_step_shown carry (ReadSite i) e = read_site u p at seat source h c me s i e
  stop_step_shown carry (NudgeKey k up) e = nudge_key u p at seat source h c me s k up e
  stop_step_shown carry (ExchangeKey k expected new) e = exchange_key u p at seat source h c me s k expected new e
