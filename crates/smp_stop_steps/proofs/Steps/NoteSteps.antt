-- What the note of each step of a CPU's command says of the state.
use Rattle.std.proofs.Common.{◌≡◌, ◌≢◌, ℕ, ◌+◌, Bool, true, false, eq-eqb, eqb-true, ◌==◌, ◌&&◌, not, cond, ◌⊎◌, inl, inr, Option, Some, None, ⊎_elim, sym}
use Rattle.std.proofs.Common.{subst, refl, ap, ◌∙◌, arith}
use Rattle.smp_labels.specs.{Kinds.xor, declared.keys.Change.Change as KeyChange}
use Rattle.smp_words.proofs.Puts.{at_test, put_same}
use Rattle.smp_stop_steps.specs.{has, change_of, count_after, is_on, word_of, seen_of, put, Field, Note, Work, Word, Gate, Slot, Key, Site, CarriesIn, Change}
use Rattle.smp_stop_steps.specs.{ReadKey, ReadSite, StaysStill, HasRead, NoteFits, heard_of, StopRole, In, Rests, Sets, RoleStands, irq_of, StopShows}
use Rattle.smp_stop_steps.specs.{HasRunIf, IsLoaded, IsNudge, RunsIf, SitsAt, SourceSits, begun_value, Source, SourceShows, Act}
use Rattle.smp_stop_steps.specs.{StopControlValue, answer_at, begun_next, key_on, looked_on, nudge_of, nudge_on, stop_ends, stop_goes, store_of, visit_acked}
use Rattle.smp_stop_steps.specs.{Setup, StopState, StopCall, Calls, FunctionGoes, note_then, state_after, Standing, Inside, acked, acknowledged}
use Rattle.smp_stop_steps.specs.{raised, stands as stands_at, answered_by, drafts, acknowledges, calls_now, is_multi, is_patch}
use Rattle.smp_stop_steps.specs.{key_loaded, key_told, leaves, looked_by, looks, looks_now, may_call, patch_begun, reads, stored_open, stored_shut, tells}
use Rattle.smp_stop_steps.specs.{unpatched, with_stop, StopStage, TakeGate, OpenGate, Begin, Enter, EnterActive, Advance, Complete, Close}
use Rattle.smp_stop_steps.specs.{LoadDone, LoadResult, NudgeKey, ExchangeKey, Visit, Sits.ControlFits, State.Present, Stop.Stop, CompletionStage, RoundStage}
use Rattle.smp_stop_steps.specs.declared.stage.StopStage.TheVariants.{ReadKey as ReadsKey, ReadSite as ReadsSite}
use Rattle.smp_stop_steps.proofs.{Basics.Counts.put_own, State.Gates.gate_free, State.Gates.gate_mine, State.Phases.is_open_inside, Steps.CallSteps.call_step}
use Rattle.smp_stop_steps.proofs.{Steps.Facts.patcher_active, Steps.Patching.not_run}
use Rattle.smp_stop_steps.specs.Names.{DISABLE_IRQ, RUN, EXIT, OVER}

-- steps after which nothing is heard
either_heard : (p q : StopState) (b : Bool) → heard_of q ≡ heard_of p → heard_of (cond b q p) ≡ heard_of p
either_heard p q b e = search arith

ack_heard : (p : StopState) (me s n : ℕ) (b : Bool) → heard_of (cond b (stored_open p me s Field.Ack n) (stored_shut p s Field.Ack n)) ≡ heard_of p
ack_heard p me s n b = search arith

result_heard : (p : StopState) (me s n : ℕ) (b : Bool) → heard_of (cond b (stored_open p me s Field.Result n) (stored_shut p s Field.Result n)) ≡ heard_of p
result_heard p me s n b = search arith

patch_heard : (u : Setup) (p : StopState) (at : Word → ℕ) (me : ℕ) (x : Change) →
    heard_of (tells u p (seen_of me (store_of x) (at (word_of (store_of x))) None) 0) ≡ heard_of p
patch_heard u p at me x = search arith

-- steps that acknowledge no phase, and leave no stop
same_still : (p : StopState) (me : ℕ) → StaysStill p p me
same_still p me s in_ = record { acked = inl refl; inside = inl in_ }

put_acked : (f : ℕ → Stop) (i me : ℕ) (x : Stop) → acked (x.standing me) ≡ acked ((f i).standing me) → (s : ℕ) →
    acked ((put f i x s).standing me) ≡ acked ((f s).standing me)
put_acked f i me x same s = search (at_test, same, arith)

draft_still : (p : StopState) (me slot n : ℕ) (f : Field) → StaysStill p (record p { now = drafts p.now slot f n }) me
draft_still p me slot n f s in_ = search (put_acked, arith)

looked_acked : (x : Standing) (n : ℕ) → acked (looked_by x n) ≡ acked x
looked_acked x n = search arith

answered_acked : (x : Standing) (n : ℕ) → acked (answered_by x n) ≡ acked x
answered_acked x n = search arith

either_still : (p q : StopState) (me : ℕ) (b : Bool) → StaysStill p q me → StaysStill p (cond b q p) me
either_still p q me b h = search (same_still, arith)

ack_still : (p : StopState) (me slot n : ℕ) (b : Bool) → StaysStill p (cond b (stored_open p me slot Field.Ack n) (stored_shut p slot Field.Ack n)) me
ack_still p me slot n b s in_ = search (put_acked, draft_still, arith)

result_still : (p : StopState) (me slot n : ℕ) (b : Bool) → StaysStill p (cond b (stored_open p me slot Field.Result n) (stored_shut p slot Field.Result n)) me
result_still p me slot n b s in_ = search (put_acked, put_same, answered_acked, draft_still, arith)

loaded_still : (u : Setup) (p : StopState) (me key found : ℕ) (x : Option ℕ) → StaysStill p (record p { now = key_loaded u p.now me key found x }) me
loaded_still u p me key found x s in_ = search (found, arith)

patch_still : (u : Setup) (p : StopState) (at : Word → ℕ) (me : ℕ) (x : Change) →
    StaysStill p (tells u p (seen_of me (store_of x) (at (word_of (store_of x))) None) 0) me
patch_still u p at me x s in_ = search arith

-- who says that it runs a function has called it
run_called : (p q : StopState) (me func arg answer : ℕ) → FunctionGoes p q me (Some (Note.Run func arg)) answer →
    (call : StopCall) × (q.calling me ≡ Calls call) × (call.func ≡ func) × (call.arg ≡ arg)
run_called p q me func arg answer h6 = search (arg, put_same, arith)

module _ (u : Setup) (p : StopState) (at : Word → ℕ) (seat : ℕ → StopRole) (source : ℕ → Source) (h : StopShows u p at seat source) (c : StopControlValue)
    (me : ℕ)
    (s : ControlFits u me (at Gate) c (seat me) (source me)) (k : CarriesIn c (p.calling me)) where
  abbrev Fits : StopStage → Type 0
  Fits stage = NoteFits p (state_after u p at c me stage) me (note_then u at c me stage)

  seat_at : (stage : StopStage) → c.stage ≡ Some stage → SitsAt u me c (Some stage) (seat me)
  seat_at stage e = subst (λ (x : Option StopStage). SitsAt u me c x (seat me)) e s.seat

  source_at : (stage : StopStage) → c.stage ≡ Some stage → SourceSits c.is_open (Some stage) (source me)
  source_at stage e = subst (λ (x : Option StopStage). SourceSits c.is_open x (source me)) e s.source

  stands : (x : StopRole) → seat me ≡ x → RoleStands p.now me x
  stands x e = subst (RoleStands p.now me) e (h.present.stands me)

  source_is : (y : Source) → source me ≡ y → SourceShows u p.gate (p.now.stop me) (λ f. at (Slot me f)) me y
  source_is y e = subst (SourceShows u p.gate (p.now.stop me) (λ f. at (Slot me f)) me) e (h.sources me)

  goes : (stage : StopStage) → c.stage ≡ Some stage → FunctionGoes p (state_after u p at c me stage) me (note_then u at c me stage) (answer_at stage)
  goes stage e = (call_step u p at seat source h c me s k stage e).goes

  gated : Fits TakeGate
  gated = search (gate_free, eqb-true, eq-eqb, arith)

  begun : (work : Work) (f : Field) → c.stage ≡ Some (Begin work f) → Fits (Begin work f)
  begun work f e = search (go, arith)
    where
      go : (p.now.stop me).is_open ≡ false → (f : Field) → NoteFits p (stored_shut p me f (begun_value u.cpus work f)) me (begun_next c work f).note
      go shut Field.Roll = search arith
      go shut f = (inl refl, draft_still p me me (begun_value u.cpus work f) f)

  entering : (slot : ℕ) → c.stage ≡ Some (Enter slot) → Fits (Enter slot)
  entering slot e = search (seat_at, h.present.stands, arith)

  module _ (v : Visit) where
    looked : (answer : ℕ) → c.stage ≡ Some (Advance v (RoundStage.Look answer)) → Fits (Advance v (RoundStage.Look answer))
    looked answer e = let x = (seat_at (Advance v (RoundStage.Look answer)) e).1.2 in go x.0 x.2 (found == v.acked) (found == DISABLE_IRQ) refl refl
      where
        found : ℕ
        found = at (Slot v.slot Field.State)

        after : Bool → StopState
        after d = record (looks p me v.slot found) { now = record (looks_now p.now me v.slot found) { irq = cond d (put p.now.irq me false) p.now.irq } }

        still : (d : Bool) → StaysStill p (after d) me
        still d j in_ = search (put_acked, found, put_same, looked_acked, arith)

        go : (work : Work) → seat me ≡ In v.slot work v.acked v.acked Rests → (b d : Bool) → (found == v.acked) ≡ b → (found == DISABLE_IRQ) ≡ d →
            NoteFits p (after d) me (cond b (stop_ends c Note.Same) (looked_on me c v answer found)).note
        go work is false true e two = (inr (inl refl), still true)
        go work is false false e two = (inl refl, still false)
        go work is true d e two = ((v.acked, record { slot = v.slot; inside = st.0; stands = stood }), quiet d two)
          where
            same : found ≡ v.acked
            same = eqb-true found v.acked e

            st : RoleStands p.now me (In v.slot work v.acked v.acked Rests)
            st = stands (In v.slot work v.acked v.acked Rests) is

            next : Stop
            next = stands_at (p.now.stop v.slot) me (looked_by ((p.now.stop v.slot).standing me) found)

            stood : (put p.now.stop v.slot next v.slot).standing me ≡ Inside v.acked v.acked
            stood = ap (λ (x : Stop). x.standing me) (put_same p.now.stop v.slot next) ∙ (search (put_same, found, same, arith))

            quiet : (d : Bool) → (found == DISABLE_IRQ) ≡ d → heard_of (after d) ≡ heard_of p
            quiet false two = refl
            quiet true two = let is_two : v.acked ≡ DISABLE_IRQ = sym same ∙ eqb-true found DISABLE_IRQ two in
                let off : p.now.irq me ≡ false = h.present.irq me ∙ (ap irq_of is ∙ ap (λ n. irq_of (In v.slot work n n Rests)) is_two) in
                ap (λ f. record (heard_of p) { irq = f }) (put_own p.now.irq me false off)

    arg_heard : (slot answer : ℕ) → heard_of (cond (may_call me (p.now.stop slot).work ((p.now.stop slot).standing me))
        (calls_now p me (p.now.stop slot).work (at (Slot slot Field.Arg)) answer) p) ≡ heard_of p
    arg_heard slot answer = search (either_heard, arith)

    arg_still : (slot answer : ℕ) → StaysStill p (cond (may_call me (p.now.stop slot).work ((p.now.stop slot).standing me))
        (calls_now p me (p.now.stop slot).work (at (Slot slot Field.Arg)) answer) p) me
    arg_still slot answer = search (either_still, arith)

    arg : (answer func : ℕ) → c.stage ≡ Some (Advance v (RoundStage.LoadArg answer func)) → Fits (Advance v (RoundStage.LoadArg answer func))
    arg answer func e = go (is_multi v.kind) refl
      where
        stage : StopStage
        stage = Advance v (RoundStage.LoadArg answer func)

        found : ℕ
        found = at (Slot v.slot Field.Arg)

        said : Bool → Option Note
        said b = (cond b (record { control = record c { stage = Some (Advance v (RoundStage.Acknowledge answer true)) }; note = Some (Note.Run func found) })
            (stop_goes c (Advance v (RoundStage.LoadKey func (change_of found))))).note

        go : (b : Bool) → is_multi v.kind ≡ b → NoteFits p (state_after u p at c me stage) me (said b)
        go true is = (
          run_called p (state_after u p at c me stage) me func found answer
              (subst (λ b. FunctionGoes p (state_after u p at c me stage) me (said b) answer) is (goes stage e)),
          arg_heard v.slot answer,
        )
        go false is = (inl (arg_heard v.slot answer), arg_still v.slot answer)

    load_key : (key : ℕ) (change : KeyChange) → c.stage ≡ Some (Advance v (RoundStage.LoadKey key change)) → Fits (Advance v (RoundStage.LoadKey key change))
    load_key key change e = search (none, found, unheard, loaded_still, arith)
      where
        found : ℕ
        found = at (Key key)

        none : (o : Option ℕ) → (key_on c v key found o).note ≡ None
        none o = search (found, arith)

        unheard : heard_of (record p { now = key_loaded u p.now me key found (p.now.inside me) }) ≡ heard_of p
        unheard = search (seat_at, stands, found, arith)

    -- the acknowledgement of a phase
    module _ (answer : ℕ) (ran : Bool) where
      abbrev phase : ℕ
      phase = v.acked + 1

      abbrev acked_stop : Stop
      acked_stop = acknowledged (p.now.stop v.slot) me phase (at (Slot v.slot Field.Ack))

      acked_here : put p.now.stop v.slot acked_stop v.slot ≡ acked_stop
      acked_here = put_same p.now.stop v.slot acked_stop

      acked_stands : (put p.now.stop v.slot acked_stop v.slot).standing me ≡ Inside phase phase
      acked_stands = ap (λ (x : Stop). x.standing me) acked_here ∙ put_same (p.now.stop v.slot).standing me (Inside phase phase)

      abbrev acked_control : StopControlValue
      acked_control = record c { visit = Some (visit_acked v answer ran) }

      abbrev acked_now : Present
      acked_now = record (p.now) { stop = put p.now.stop v.slot acked_stop; patching = cond (phase == RUN) (unpatched me p.now.patching) p.now.patching }

      -- after it, where the CPU leaves the stop or not
      abbrev acked_after : Bool → StopState
      acked_after b = record (acknowledges p me v.slot (Inside v.acked phase) (at (Slot v.slot Field.Ack))) {
        now = cond b (leaves acked_now me v.slot (p.now.stop v.slot).work) acked_now;
      }

      module _ (in_ : p.now.inside me ≡ Some v.slot) (st : (p.now.stop v.slot).standing me ≡ Inside v.acked phase)
          (off : (p.now.irq me ≡ false) ⊎ (phase ≢ EXIT))
          (run : HasRunIf me (visit_acked v answer ran) ran) (active : v.active ≡ (p.now.stop v.slot).work.active) where
        acked_turn : (r : Bool) → ran ≡ r → phase ≢ EXIT → NoteFits p (acked_after false) me (Some (cond r Note.Ran (Note.Moved phase)))
        acked_turn true r ne = (
          record {
            acked = record { slot = v.slot; inside = in_; stands = acked_stands ∙ ap (λ n. Inside n n) (run.at_run r) };
            active_is = λ three. ap (λ (x : Stop). has x.work.active me) acked_here ∙ (ap (λ m. has m me) (sym active) ∙ (run.active (run.at_run r) ∙ r));
          },
          refl,
        )
        acked_turn false r ne = (
          record {
            acked = record { slot = v.slot; inside = in_; stands = acked_stands };
            active_is = λ three. ap (λ (x : Stop). has x.work.active me) acked_here ∙ (ap (λ m. has m me) (sym active) ∙ (run.active three ∙ r));
          },
          ne,
          refl,
        )

        -- the last to acknowledge is to set the next phase
        acked_still : (at (Slot v.slot Field.Ack) == 1) ≡ true → StaysStill p (acked_after false) me
        acked_still one j is = search (acked_here, one, arith)

        acked_fits : (b d : Bool) → (at (Slot v.slot Field.Ack) == 1) ≡ b → (phase == EXIT) ≡ d → NoteFits p (acked_after (d && not b)) me
            (cond b (stop_goes acked_control (Advance (visit_acked v answer ran) (RoundStage.Refill ran)))
            (stop_ends (record acked_control { interrupts = cond d true c.interrupts }) (cond d Note.Left (cond ran Note.Ran (Note.Moved phase))))).note
        acked_fits true true one four = (inl refl, acked_still one)
        acked_fits true false one four = (inl refl, acked_still one)
        acked_fits false true one four = let is_four : phase ≡ EXIT = eqb-true phase EXIT four in
            record {
              acked = record { slot = v.slot; inside = in_; stands = acked_stands ∙ ap (λ n. Inside n n) is_four };
              off = ⊎_elim (λ (o : p.now.irq me ≡ false). o) (λ (ne : phase ≢ EXIT). absurd (ne is_four)) off;
              on = search (acked_here, arith);
            }
        acked_fits false false one four = search (acked_turn, eq-eqb, arith)

        ack_fits : Fits (Advance v (RoundStage.Acknowledge answer ran))
        ack_fits = search (st, acked_fits, arith)

      run_of : (b : Bool) → RunsIf me v b → HasRunIf me (visit_acked v answer b) b
      run_of b runs = search arith

      acknowledge : c.stage ≡ Some (Advance v (RoundStage.Acknowledge answer ran)) → Fits (Advance v (RoundStage.Acknowledge answer ran))
      acknowledge e = search (seat_at, v.acked, stands, ack_fits, run_of, h.present.irq, eqb-true, eq-eqb, patcher_active, v.active, arith)

    -- who sets the phase after EXIT leaves with it
    module _ (ran : Bool) where
      abbrev raised_stop : Stop
      raised_stop = raised (p.now.stop v.slot) (v.acked + 1)

      raised_here : put p.now.stop v.slot raised_stop v.slot ≡ raised_stop
      raised_here = put_same p.now.stop v.slot raised_stop

      abbrev raised_after : Bool → StopState
      raised_after b = record p {
        now = cond b (leaves (with_stop p.now v.slot raised_stop) me v.slot (p.now.stop v.slot).work) (with_stop p.now v.slot raised_stop);
      }

      module _ (work : Work) (loaded : IsLoaded v work) (is : seat me ≡ In v.slot work v.acked v.acked Sets) (run : HasRunIf me v ran)
          (in_ : p.now.inside me ≡ Some v.slot) (st : (p.now.stop v.slot).standing me ≡ Inside v.acked v.acked) (same : (p.now.stop v.slot).work ≡ work) where
        raised_stands : (put p.now.stop v.slot raised_stop v.slot).standing me ≡ Inside v.acked v.acked
        raised_stands = ap (λ (x : Stop). x.standing me) raised_here ∙ st

        raised_active : has (put p.now.stop v.slot raised_stop v.slot).work.active me ≡ has v.active me
        raised_active = search (raised_here, arith)

        raised_turn : (r : Bool) → ran ≡ r → v.acked ≢ EXIT → NoteFits p (raised_after false) me (Some (cond r Note.Ran (Note.Moved v.acked)))
        raised_turn true r ne = (
          record {
            acked = record { slot = v.slot; inside = in_; stands = raised_stands ∙ ap (λ n. Inside n n) (run.at_run r) };
            active_is = λ three. raised_active ∙ (run.active (run.at_run r) ∙ r);
          },
          refl,
        )
        raised_turn false r ne = (
          record { acked = record { slot = v.slot; inside = in_; stands = raised_stands }; active_is = λ three. raised_active ∙ (run.active three ∙ r) },
          ne,
          refl,
        )

        raised_fits : (d f : Bool) → (v.acked == EXIT) ≡ d → (v.acked + 1 == OVER) ≡ f → NoteFits p (raised_after f) me
            (Some (cond d Note.Left (cond ran Note.Ran (Note.Moved v.acked))))
        raised_fits true true four five = let is_four : v.acked ≡ EXIT = eqb-true v.acked EXIT four in
            record {
              acked = record { slot = v.slot; inside = in_; stands = raised_stands ∙ ap (λ n. Inside n n) is_four };
              off = h.present.irq me ∙ (ap irq_of is ∙ ap (λ n. irq_of (In v.slot work n n Sets)) is_four);
              on = search (raised_here, arith);
            }
        raised_fits true false four five = search (eqb-true, v.acked, eq-eqb, arith)
        raised_fits false true four five = search (eqb-true, eq-eqb, v.acked, arith)
        raised_fits false false four five = search (raised_turn, eq-eqb, v.acked, arith)

      raise : c.stage ≡ Some (Advance v (RoundStage.Raise ran)) → Fits (Advance v (RoundStage.Raise ran))
      raise e = search (seat_at, stands, v.acked, is_open_inside, h.present.slots, raised_fits, arith)

    count_down : c.stage ≡ Some (Complete v CompletionStage.CountDown) → Fits (Complete v CompletionStage.CountDown)
    count_down e = search (seat_at, put_acked, put_same, stands, arith)

  close : (slot : ℕ) → c.stage ≡ Some (Close slot) → Fits (Close slot)
  close slot e = search (stands, seat_at, put_same, arith)

  load_done : c.stage ≡ Some LoadDone → Fits LoadDone
  load_done e = search (source_at, source_is, eqb-true, same_still, arith)

  -- the load of a key by a CPU with its interrupts on is a reading
  key_read : (key : ℕ) → c.interrupts ≡ true → HasRead p (record p { now = key_loaded u p.now me key (at (Key key)) (p.now.inside me) }) me
      (ReadKey key (is_on (at (Key key))))
  key_read key on = go (p.now.inside me) refl
    where
      go : (x : Option ℕ) → p.now.inside me ≡ x → HasRead p (record p { now = key_loaded u p.now me key (at (Key key)) x }) me
          (ReadKey key (is_on (at (Key key))))
      go None is = refl
      go (Some j) is = subst (λ b. HasRead p (record p {
        now = cond (b && is_patch (p.now.stop j).work.kind) (record (p.now) { patching = patch_begun u me (p.now.stop j).work (at (Key key)) })
            (reads p.now me (ReadKey key (is_on (at (Key key)))));
      }) me (ReadKey key (is_on (at (Key key))))) (sym (not_run u p at seat source h me j (h.present.irq me ∙ (sym s.irq ∙ on)) is)) refl

  read_key : (key : ℕ) → c.stage ≡ Some (ReadsKey key) → Fits (ReadsKey key)
  read_key key e = go (is_on (at (Key key))) refl
    where
      after : StopState
      after = record p { now = key_loaded u p.now me key (at (Key key)) (p.now.inside me) }

      go : (b : Bool) → is_on (at (Key key)) ≡ b → NoteFits p after me (Some (cond b Note.On Note.Off))
      go true is = (key, subst (λ b. HasRead p after me (ReadKey key b)) is (key_read key (seat_at (ReadsKey key) e).0))
      go false is = (key, subst (λ b. HasRead p after me (ReadKey key b)) is (key_read key (seat_at (ReadsKey key) e).0))

  read_site : (site : ℕ) → Fits (ReadsSite site)
  read_site site = go (is_on (at (Site site)))
    where
      go : (b : Bool) → NoteFits p (record p { now = reads p.now me (ReadSite site b) }) me (Some (cond b Note.Jmp Note.Nop))
      go true = (site, refl)
      go false = (site, refl)

  nudge : (key : ℕ) (up : Bool) → c.stage ≡ Some (NudgeKey key up) → Fits (NudgeKey key up)
  nudge key up e = go (count_after (nudge_of up) found)
    where
      found : ℕ
      found = at (Key key)

      after : StopState
      after = record p { now = key_loaded u p.now me key found (p.now.inside me) }

      read : HasRead p after me (ReadKey key (is_on found))
      read = key_read key (seat_at (NudgeKey key up) e).0

      go : (o : Option ℕ) → NoteFits p after me (nudge_on c key found o).note
      go None = (key, is_on found, read)
      go (Some new) = elim (xor (is_on found) (is_on new)) as
          (λ b. NoteFits p after me (cond b (stop_ends c Note.Stop) (stop_goes c (ExchangeKey key found new))).note) [
            | true ↦ (key, is_on found, read)
            | false ↦ (inr (inr (key, is_on found, read)), loaded_still u p me key found (p.now.inside me))
          ]

  exchange : (key expected new : ℕ) → c.stage ≡ Some (ExchangeKey key expected new) → Fits (ExchangeKey key expected new)
  exchange key expected new e = go (found == expected) refl
    where
      found : ℕ
      found = at (Key key)

      one : IsNudge expected new
      one = (seat_at (ExchangeKey key expected new) e).3

      go : (b : Bool) → (found == expected) ≡ b → NoteFits p (key_told u p me key Act.Cas (Some found) (cond b (Some new) None)) me
          (Some (cond b Note.Done Note.Lost))
      go true same = record {
        key = key;
        found = found;
        new = new;
        moved = refl;
        one = subst (λ n. (new ≡ n + 1) ⊎ (n ≡ new + 1)) (sym (eqb-true found expected same)) one.one;
      }
      go false same = refl

  pub note_fits : (stage : StopStage) → c.stage ≡ Some stage → Fits stage
  note_fits TakeGate e = gated
  note_fits OpenGate e = search (gate_mine, arith)
  note_fits (Begin work f) e = begun work f e
  note_fits (Enter slot) e = entering slot e
  note_fits (EnterActive slot kind mask) e = search (seat_at, stands, arith)
  note_fits (Advance v (RoundStage.Look answer)) e = looked v answer e
  note_fits (Advance v (RoundStage.LoadArg answer func)) e = arg v answer func e
  note_fits (Advance v (RoundStage.LoadKey key change)) e = load_key v key change e
  note_fits (Advance v (RoundStage.StoreChange made)) e = search (patch_heard, patch_still, arith)
  note_fits (Advance v (RoundStage.Acknowledge answer ran)) e = acknowledge v answer ran e
  note_fits (Advance v (RoundStage.Refill ran)) e = search (ack_heard, ack_still, arith)
  note_fits (Advance v (RoundStage.Raise ran)) e = raise v ran e
  note_fits (Complete v (CompletionStage.LoadArg answer func)) e = search (run_called, goes, arg_heard, arith)
  note_fits (Complete v CompletionStage.StoreAnswer) e = search (result_heard, result_still, arith)
  note_fits (Complete v CompletionStage.CountDown) e = count_down v e
  note_fits (Close slot) e = close slot e
  note_fits LoadDone e = load_done e
  note_fits LoadResult e = search (put_same, arith)
  note_fits (ReadsKey key) e = read_key key e
  note_fits (ReadsSite site) e = read_site site
  note_fits (NudgeKey key up) e = nudge key up e
  note_fits (ExchangeKey key expected new) e = exchange key expected new e
  note_fits _ e = (inl refl, same_still p me)
