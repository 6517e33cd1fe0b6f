-- Each step of a CPU's command leaves its function where the next stage says, and the functions of all others.
use Rattle.std.proofs.Common.{◌≡◌, ◌≢◌, ℕ, ◌+◌, Bool, true, false, eq-eqb, eqb-true, ◌==◌, cond, ◌⊎◌, inl, inr, Option, Some, None, [], ◌∷◌, sym, subst, refl}
use Rattle.std.proofs.Common.{ap, arith}
use Rattle.smp_labels.specs.{Kinds.xor, declared.keys.Change.Change as KeyChange}
use Rattle.smp_words.proofs.Puts.{put_same, put_other}
use Rattle.smp_stop_steps.specs.{count_after, patch_answer, IsThroughAll, visit_acked, control_then, state_after, acknowledges, carried_call, completes_with}
use Rattle.smp_stop_steps.specs.{is_on, IsCalling, answer_in, HasCalled, CarriesAt, called_more, stored_open, stored_shut, ExchangeKey}
use Rattle.smp_stop_steps.specs.{word_of, seen_of, IsQuiet, Calling, CallStep, Standing, key_told, may_call, TakeGate, Complete, NudgeKey}
use Rattle.smp_stop_steps.specs.{put, One, Work, Word, Gate, Slot, Key, StopRole, In, Duty, Setup, Idle, Calls, tells, told, Begin}
use Rattle.smp_stop_steps.specs.{Enter, Close, Visit, Place, Act}
use Rattle.smp_stop_steps.specs.{Field, CarriesIn, StopShows, answer_at, turn_note, stop_goes, turn_ends, StopState, note_then, calls_now, completes}
use Rattle.smp_stop_steps.specs.{StopControlValue}
use Rattle.smp_stop_steps.specs.{Patch, Change, Gives, Alters, Rests, RoleStands, RunsIf, Source, key_on, told_of, is_run, Inside, carried, plan_at, Advance}
use Rattle.smp_stop_steps.specs.{IsAcking, IsEnding, IsLoaded, nudge_of, nudge_on, store_of, StopCall, gate_told, StopStage}
use Rattle.smp_stop_steps.specs.{Sits.ControlFits}
use Rattle.smp_stop_steps.proofs.{Steps.Completions.one_phase, State.Phases.is_open_inside, State.Phases.keeps_inside, Steps.Callings.carried_alone}
use Rattle.smp_stop_steps.proofs.{Steps.Callings.idle_alters, Steps.Callings.idle_patch, Steps.Stages.at_seat}
use Rattle.smp_stop_steps.specs.note
use Rattle.smp_stop_steps.specs.completion
use Rattle.smp_stop_steps.specs.round
use Rattle.smp_stop_steps.specs.Names.{DISABLE_IRQ, RUN}

-- no store calls a function
open_calling : (p : StopState) (me s v : ℕ) (f : Field) → told_of (stored_open p me s f v) ≡ told_of p
open_calling p me s v f = search arith

shut_calling : (p : StopState) (s v : ℕ) (f : Field) → told_of (stored_shut p s f v) ≡ told_of p
shut_calling p s v f = search arith

store_calling : (p : StopState) (me s v : ℕ) (f : Field) (b : Bool) → told_of (cond b (stored_open p me s f v) (stored_shut p s f v)) ≡ told_of p
store_calling p me s v f b = search (open_calling, shut_calling, arith)

either_calling : (p q : StopState) (b : Bool) → told_of q ≡ told_of p → told_of (cond b q p) ≡ told_of p
either_calling p q b e = search arith

gate_calling : (p : StopState) (me n : ℕ) (b : Bool) → told_of (gate_told p me Act.Cas (cond b (Some n) None)) ≡ told_of p
gate_calling p me n b = search arith

nudge_calling : (u : Setup) (p : StopState) (me k found n : ℕ) (b : Bool) → told_of (key_told u p me k Act.Cas (Some found) (cond b (Some n) None)) ≡ told_of p
nudge_calling u p me k found n b = search arith

patch_calling : (u : Setup) (p : StopState) (at : Word → ℕ) (me : ℕ) (x : Change) →
    told_of (tells u p (seen_of me (store_of x) (at (word_of (store_of x))) None) 0) ≡ told_of p
patch_calling u p at me x = search arith

-- what is carried where nothing is called stays
quiet_carried : (v : Visit) (f : Calling) → IsQuiet (Some v) f → carried_call f ≡ f
quiet_carried v f k = search arith

quiet_visit : (v w : Visit) (f : Calling) → w.answer ≡ v.answer → IsQuiet (Some v) f → IsQuiet (Some w) f
quiet_visit v w f same k = search arith

-- before RUN is acknowledged who calls nothing carries nothing
quiet_early : (c s : ℕ) (w : Work) (l : ℕ) (t : Duty) (v : Visit) (f : Calling) → IsQuiet (Some v) f → v.acked ≡ DISABLE_IRQ
    → IsCalling c (In s w DISABLE_IRQ l t) f → f ≡ Idle
quiet_early c s w l t v f q two k = search (q, arith)

-- nor does it in a stop of kind One
quiet_one : (c s : ℕ) (w : Work) (a l : ℕ) (t : Duty) (v : Visit) (f : Calling) → IsQuiet (Some v) f → a ≡ 0 → IsCalling c (In s w a l t) f → f ≡ Idle
quiet_one c s w a l t v f q none k = search (q, none, arith)

quiet_none : (f : Calling) → IsQuiet None f → f ≡ Idle
quiet_none f k = search arith

module _ (u : Setup) (p : StopState) (at : Word → ℕ) (seat : ℕ → StopRole) (source : ℕ → Source) (h : StopShows u p at seat source) (c : StopControlValue)
    (me : ℕ)
    (s : ControlFits u me (at Gate) c (seat me) (source me)) (k : CarriesIn c (p.calling me)) where
  abbrev f : Calling
  f = p.calling me

  abbrev Now : StopStage → Type 0
  Now stage = CallStep u p at c me stage

  at_stage : (stage : StopStage) → c.stage ≡ Some stage → CarriesAt c.visit (Some stage) f
  at_stage stage e = subst (λ (x : Option StopStage). CarriesAt c.visit x f) e k

  calling_at : (x : StopRole) → seat me ≡ x → IsCalling me x f
  calling_at x e = subst (λ y. IsCalling me y f) e (h.callings me)

  -- a step that calls nothing
  plain : (stage : StopStage) → told_of (state_after u p at c me stage) ≡ told_of p → is_run (note_then u at c me stage) ≡ false →
      CarriesIn (control_then u at c me stage) f → Now stage
  plain stage same says mine = search (stage, arith)

  module _ (v : Visit) where
    quiet : c.visit ≡ Some v → IsQuiet c.visit f → IsQuiet (Some v) f
    quiet visit q = subst (λ x. IsQuiet x f) visit q

    look : (answer : ℕ) → c.stage ≡ Some (Advance v (round.Look answer)) → Now (Advance v (round.Look answer))
    look answer e = search (plain, v.active, c.visit, at_stage, quiet, at_seat, arith)

    -- load of the argument of a function that the CPU may call
    called : (s : ℕ) (w : Work) (a l answer : ℕ) → seat me ≡ In s w a l Rests → may_call me w (Inside a l) ≡ true →
        let found = at (Slot s Field.Arg) in
        (told u p me Act.Load (Slot s Field.Arg) (Some found) None answer) ≡ calls_now p me (p.now.stop s).work found answer
    called s w a l answer is may = search (h.present.stands, arith)

    calls : (stage : StopStage) (s : ℕ) (w : Work) (a l answer : ℕ) → state_after u p at c me stage ≡ told u p me Act.Load (Slot s Field.Arg)
        (Some (at (Slot s Field.Arg))) None answer →
        seat me ≡ In s w a l Rests → may_call me w (Inside a l) ≡ true → f ≡ Idle → answer_at stage ≡ answer → note_then u at c me stage ≡ Some
        (note.Run w.func (at (Slot s Field.Arg))) →
        ((call : StopCall) → call.answer ≡ answer → CarriesIn (control_then u at c me stage) (Calls call)) → Now stage
    calls stage s w a l answer is_told is may idle answered says mine = search (h.present.stands, stage, called, put_same, put_other, arith)

    load_arg : (answer func : ℕ) → c.stage ≡ Some (Advance v (round.LoadArg answer func)) → Now (Advance v (round.LoadArg answer func))
    load_arg answer func e = search (at_seat, at_stage, calls, quiet_early, quiet, calling_at, plain, arith)

    load_key : (key : ℕ) (change : KeyChange) → c.stage ≡ Some (Advance v (round.LoadKey key change)) → Now (Advance v (round.LoadKey key change))
    load_key key change e = search (at_seat, idle_patch, calling_at, plain, silent, go, arith)
      where
        q : IsQuiet c.visit f
        q = at_stage (Advance v (round.LoadKey key change)) e

        silent : (o : Option ℕ) → is_run (key_on c v key (at (Key key)) o).note ≡ false
        silent o = search arith

        acking : (answer : ℕ) → v.kind ≡ Patch → f ≡ Idle → IsAcking v answer true f
        acking answer kind idle = subst (IsAcking v answer true) (sym idle) kind

        go : v.kind ≡ Patch → f ≡ Idle → (o : Option ℕ) → CarriesIn (key_on c v key (at (Key key)) o).control f
        go kind idle None = acking 1 kind idle
        go kind idle (Some new) = either (at (Key key) == new) (xor (is_on (at (Key key))) (is_on new))
          where
            either : (b d : Bool) → CarriesIn (cond b (stop_goes (record c { changes = [] }) (Advance v (round.Acknowledge 0 true)))
                (stop_goes (record c { changes = (Place.Key key, new) ∷ [] }) (Advance v (cond d (round.LoadEntry key new 0) (round.StoreChange
                0))))).control f
            either true d = acking 0 kind idle
            either false true = q
            either false false = q

    load_entry : (key word site : ℕ) → c.stage ≡ Some (Advance v (round.LoadEntry key word site)) → Now (Advance v (round.LoadEntry key word site))
    load_entry key word site e = search (at_stage, plain, c.visit, arith)

    store_change : (made : ℕ) → c.stage ≡ Some (Advance v (round.StoreChange made)) → Now (Advance v (round.StoreChange made))
    store_change made e = search (at_seat, at_stage, h.present.stands, idle_alters, calling_at, plain, patch_calling, c.visit, arith)

    -- the acknowledgement
    acked_control : (answer : ℕ) (ran b : Bool) (g : Calling) → IsQuiet (Some (visit_acked v answer ran)) g →
        CarriesIn (cond b (stop_goes (record c { visit = Some (visit_acked v answer ran) }) (Advance (visit_acked v answer ran) (round.Refill ran)))
        (turn_ends (record c { visit = Some (visit_acked v answer ran) }) (v.acked + 1) ran)).control g
    acked_control answer ran b g q = search (q, arith)

    acknowledge : (answer : ℕ) (ran : Bool) → c.stage ≡ Some (Advance v (round.Acknowledge answer ran)) → Now (Advance v (round.Acknowledge answer ran))
    acknowledge answer ran e = let x = (at_seat s (Advance v (round.Acknowledge answer ran)) e).1 in either x.0 x.1 x.3
      where
        stage : StopStage
        stage = Advance v (round.Acknowledge answer ran)

        found : ℕ
        found = at (Slot v.slot Field.Ack)

        -- the CPU's function after it, where it stood so
        after : (a : ℕ) → (p.now.stop v.slot).standing me ≡ Inside v.acked a → told_of (state_after u p at c me stage) ≡ record (told_of p) {
          calling = cond (a == RUN) (put p.calling me (carried me p.now.patching f)) p.calling;
          calls = cond (a == RUN) (called_more p.calls me f) p.calls;
        }
        after a st = ap (λ (x : Standing). told_of (acknowledges p me v.slot x found)) st

        done : (b : Bool) (g : Calling) → told_of (state_after u p at c me stage) ≡ record (told_of p) {
          calling = cond b (put p.calling me g) p.calling;
          calls = cond b (called_more p.calls me f) p.calls;
        } →
            g ≡ carried me p.now.patching f → p.now.inside me ≡ Some v.slot → (b ≡ true → HasCalled me (p.now.stop v.slot).work f ⊎
            ((p.now.stop v.slot).work.kind ≡ Patch)) →
            (b ≡ true → IsQuiet (Some (visit_acked v answer ran)) g) → (b ≡ false → IsQuiet (Some (visit_acked v answer ran)) f) → Now stage
        done true g same is in_ ready y n = search (stage, put_same, acked_control, found, put_other, called, calls, arith)
        done false g same is in_ ready y n = search (stage, acked_control, found, arith)

        -- who acknowledges RUN has called its function, or is not to call one

        -- who has called its function carries its answer, any other what it carried
        ran_on : (b : Bool) (g : Calling) → ran ≡ b → RunsIf me v b → IsAcking v answer b g → IsQuiet (Some (visit_acked v answer b)) (carried_call g)
        ran_on b g r runs is = search (quiet_carried, quiet_visit, arith)

        stays : (b : Bool) (g : Calling) → ran ≡ b → RunsIf me v b → IsAcking v answer b g → (v.acked + 1 == RUN) ≡ false →
            IsQuiet (Some (visit_acked v answer b)) g
        stays b g r runs is other = search (eq-eqb, quiet_visit, arith)

        either : (work : Work) → IsLoaded v work →
            (((seat me ≡ In v.slot work v.acked (v.acked + 1) Rests) × RunsIf me v ran) ⊎ ((v.acked ≡ DISABLE_IRQ) × (ran ≡ true) ×
            ((count : ℕ) × (answer ≡ patch_answer work count) × (seat me ≡ Alters v.slot work count (plan_at u work count) [])))) → Now stage
        either work loaded (inl (is, runs)) = search (carried_alone, at_stage, stage, done, after, eqb-true, ran_on, stays, arith)
        either work loaded (inr (two, r, (n, answers, is))) = search (h.present.stands, v.acked, eq-eqb, done, after, arith)

    -- the completion
    none_acked : (work : Work) → work.kind ≡ One → seat me ≡ In v.slot work v.acked v.acked Rests → v.acked ≡ 0
    none_acked work one is = search (h.present.stands, is_open_inside, h.present.slots, one_phase, keeps_inside, arith)

    one_arg : (answer func : ℕ) → c.stage ≡ Some (Complete v (completion.LoadArg answer func)) → Now (Complete v (completion.LoadArg answer func))
    one_arg answer func e = search (at_seat, v.acked, h.present.stands, calls, quiet_one, quiet, at_stage, none_acked, calling_at, arith)

    count_down : c.stage ≡ Some (Complete v completion.CountDown) → Now (Complete v completion.CountDown)
    count_down e = let x = (at_seat s (Complete v completion.CountDown) e).1 in either x.0 x.1
      where
        found : ℕ
        found = at (Slot v.slot Field.Todo)

        ending : (g : Calling) → IsEnding v g → v.answer ≡ answer_in g
        ending g is = search arith

        silent : is_run (note_then u at c me (Complete v completion.CountDown)) ≡ false
        silent = search (found, arith)

        done : (a x : ℕ) → told_of (state_after u p at c me (Complete v completion.CountDown)) ≡ told_of (completes_with p me v.slot a x found) →
            p.now.inside me ≡ Some v.slot → x ≡ v.answer →
            ((p.now.stop v.slot).work.kind ≡ One → f ≢ Idle) → Now (Complete v completion.CountDown)
        done a x same in_ answers called = search (put_same, found, put_other, called, calls, ending, silent, arith)

        left_one : (g : Calling) → IsEnding v g → v.acked ≡ 0 → g ≢ Idle
        left_one g is none = search arith

        given_called : (work : Work) (a x : ℕ) (g : Calling) → IsCalling me (Gives v.slot work a x) g → g ≢ Idle
        given_called work a x g is = search arith

        either : (work : Work) → (((v.answer ≡ 0) × IsLoaded v work × IsThroughAll v × (seat me ≡ In v.slot work v.acked v.acked Rests)) ⊎
            (seat me ≡ Gives v.slot work v.acked v.answer)) → Now (Complete v completion.CountDown)
        either work (inl (none, loaded, all, is)) = search (v.acked, h.present.stands, done, found, none, left_one, none_acked, arith)
        either work (inr is) = let st : RoleStands p.now me (Gives v.slot work v.acked v.answer) = subst (RoleStands p.now me) is (h.present.stands me) in
            done v.acked v.answer (ap (λ (x : Standing). told_of (completes p me v.slot x found)) st.1) st.0 refl
            (λ _. given_called work v.acked v.answer f (calling_at (Gives v.slot work v.acked v.answer) is))

  -- the note of a turn
  turn_silent : (p : ℕ) (ran : Bool) → is_run (Some (turn_note p ran)) ≡ false
  turn_silent p ran = search arith

  pub call_step : (stage : StopStage) → c.stage ≡ Some stage → Now stage
  call_step TakeGate e = search (plain, gate_calling, at_stage, arith)
  call_step (Begin work g) e = search (plain, store_calling, c.visit, at_stage, arith)
  call_step (Enter slot) e = search (at_seat, c.visit, at_stage, plain, either_calling, quiet_none, arith)
  call_step (Advance v (round.Look answer)) e = look v answer e
  call_step (Advance v (round.LoadArg answer func)) e = load_arg v answer func e
  call_step (Advance v (round.LoadKey key change)) e = load_key v key change e
  call_step (Advance v (round.LoadEntry key word site)) e = load_entry v key word site e
  call_step (Advance v (round.StoreChange made)) e = store_change v made e
  call_step (Advance v (round.Acknowledge answer ran)) e = acknowledge v answer ran e
  call_step (Advance v (round.Refill ran)) e = search (plain, store_calling, at_stage, arith)
  call_step (Advance v (round.Raise ran)) e = search (plain, store_calling, turn_silent, at_stage, arith)
  call_step (Complete v (completion.LoadArg answer func)) e = one_arg v answer func e
  call_step (Complete v completion.StoreAnswer) e = search (plain, store_calling, at_stage, arith)
  call_step (Complete v completion.CountDown) e = count_down v e
  call_step (Close slot) e = plain (Close slot) (store_calling p me slot 1 Field.Done (p.now.stop slot).is_open) refl (at_stage (Close slot) e)
  call_step (NudgeKey k up) e = plain (NudgeKey k up) refl (silent (count_after (nudge_of up) (at (Key k)))) (nudged (count_after (nudge_of up) (at (Key k))))
    where
      q : IsQuiet c.visit f
      q = at_stage (NudgeKey k up) e

      silent : (o : Option ℕ) → is_run (nudge_on c k (at (Key k)) o).note ≡ false
      silent o = search arith

      nudged : (o : Option ℕ) → CarriesIn (nudge_on c k (at (Key k)) o).control f
      nudged None = q
      nudged (Some new) = search (q, arith)
  call_step (ExchangeKey k expected new) e = plain (ExchangeKey k expected new) (nudge_calling u p me k (at (Key k)) new (at (Key k) == expected))
      (elim (at (Key k) == expected) as (λ b. is_run (Some (cond b note.Done note.Lost)) ≡ false) [ true ↦ refl | false ↦ refl ])
      (at_stage (ExchangeKey k expected new) e)
  call_step _ e = search (plain, at_stage, arith)
