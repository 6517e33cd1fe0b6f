-- Each step of a CPU's command keeps what the words show of the stops, and what was seen of it tells the stops after it.
use Rattle.std.proofs.Common.{◌≡◌, ◌≢◌, ℕ, ◌+◌, ◌-◌, ◌^◌, ◌<◌, Bool, true, false, eq-eqb, eqb-true, ◌==◌, cond, sym, subst, refl, ap, ◌∙◌, ◌⊎◌, arith, nat_lt}
use Rattle.std.proofs.Common.{Option, Some, None}
use Rattle.smp_labels.proofs.Patched.{left_in_form, xor_same}
use Rattle.smp_labels.specs.Kinds.{xor}
use Rattle.smp_words.specs.declared.field.Field.TheVariants.{Ack, Active, Arg, Done, Func, Kind, Mask, Result, Roll, State, Todo}
use Rattle.smp_words.specs.{Access.one_less, Access.put_if, Kinds.kind_at}
use Rattle.smp_stop_steps.specs.{is_on, count_after, IsKeyWord, put, put_word, In, Rests, StopRole, StopShows, OwnsIf, SitsAt}
use Rattle.smp_stop_steps.specs.{SitsAtRest, SourceSits, IsNudge, Act}
use Rattle.smp_stop_steps.specs.{begun_value, order, Collects, Drafts, Owns, Shut, Source, StopControlValue, stop_ends, stop_goes, nudge_on, nudge_of, Setup}
use Rattle.smp_stop_steps.specs.{StopState, StopStep, at_then, state_after, gate_told, told, Field, Begin, EnterActive, EnterKind, EnterMask, LoadDone, Note}
use Rattle.smp_stop_steps.specs.{LoadResult, OpenGate, TakeGate, NudgeKey, ExchangeKey, StopStage, Kind as KindOf, Work, Gate, Slot}
use Rattle.smp_stop_steps.specs.{Key, Word, Sits.ControlFits}
use Rattle.smp_stop_steps.specs.declared.stage.StopStage.TheVariants.{ReadKey, ReadSite}
use Rattle.smp_stop_steps.proofs.Steps.Patching.{key_read, site_read, key_exchanged}
use Rattle.smp_stop_steps.proofs.Steps.Sources.{done_loaded, field_stored, gate_opened, gate_taken, kind_back, result_loaded, roll_stored}
use Rattle.smp_stop_steps.proofs.{State.Gates.gate_mine, Steps.Same.moved_source, Steps.Same.still, State.Patched.lawful_when_on, Steps.Facts.work_words}

-- a nudge moves a count by one
one_apart : (up : Bool) (n new : ℕ) → count_after (nudge_of up) n ≡ Some new → (new ≡ n + 1) ⊎ (n ≡ new + 1)
one_apart up n new e = search (nat_lt, eq-eqb, arith)

pub less_one : (n : ℕ) → 0 < n → n < 2 ^ 64 → one_less n ≡ n - 1
less_one n some small = omega arith

module _ (u : Setup) (p : StopState) (at : Word → ℕ) (seat : ℕ → StopRole) (source : ℕ → Source) (h : StopShows u p at seat source) (c : StopControlValue)
    (me : ℕ)
    (s : ControlFits u me (at Gate) c (seat me) (source me)) where
  -- between commands
  abbrev AtRest : Type 0
  AtRest = SitsAtRest c.visit (seat me)

  gate_is_taken : (b : Bool) → (at Gate == 0) ≡ b →
      StopShows u (gate_told p me Act.Cas (cond b (Some (me + 1)) None)) (put_if put_word at Gate (cond b (Some (me + 1)) None)) seat source
  gate_is_taken true e = gate_taken u p at seat source h me 0 (eqb-true (at Gate) 0 e)
  gate_is_taken false e = h

  not_drafting : {y : Source} → OwnsIf c.is_open y → (work : Work) (k : ℕ) → y ≢ Drafts work k
  not_drafting {y} o work k e = search (c.is_open, arith)

  pub take_gate : c.stage ≡ Some TakeGate → StopStep u p at seat source c me TakeGate
  take_gate e = search ((still u seat source me (state_after u p at c me TakeGate) (at_then u at c me TakeGate) (gate_is_taken (at Gate == 0) refl)), arith)

  pub open_gate : c.stage ≡ Some OpenGate → StopStep u p at seat source c me OpenGate
  open_gate e = let shows' = still u seat source me (state_after u p at c me OpenGate) (at_then u at c me OpenGate) (search (
    gate_opened,
    gate_mine,
    not_drafting,
    arith,
  )) in
      search (shows', arith)

  -- begin
  begins_seat : (work : Work) (f : Field) → c.stage ≡ Some (Begin work f) → AtRest
  begins_seat work f e = subst (λ (st : Option StopStage). SitsAt u me c st (seat me)) e s.seat

  begins_source : (work : Work) (f : Field) → c.stage ≡ Some (Begin work f) → (c.is_open ≡ false) × (source me ≡ Drafts work (order f))
  begins_source work f e = subst (λ (st : Option StopStage). SourceSits c.is_open st (source me)) e s.source

  -- a store but the last
  drafts_step : (work : Work) (f g : Field) → c.stage ≡ Some (Begin work f) → order f < 10 → order g ≡ order f + 1 →
      (StopShows u (told u p me Act.Store (Slot me f) None (Some (begun_value u.cpus work f)) 0) (put_word at (Slot me f) (begun_value u.cpus work f))
      (put seat me (seat me)) (put source me (Drafts work (order g)))) ×
      ControlFits u me (at Gate) (record c { stage = Some (Begin work g) }) (seat me) (Drafts work (order g))
  drafts_step work f g e low next = let y = begins_source work f e in
      let p' = told u p me Act.Store (Slot me f) None (Some (begun_value u.cpus work f)) 0 in
      let at' = put_word at (Slot me f) (begun_value u.cpus work f) in (
        moved_source u seat source me p' at' (Drafts work (order g))
            (subst (λ k. StopShows u p' at' seat (put source me (Drafts work k))) (sym next) (field_stored u p at seat source h me work (order f) f 0 y.1
            refl low)),
        record { below = s.below; irq = s.irq; seat = begins_seat work f e; source = (y.0, refl); gate_held = tt },
      )

  pub begin_step : (work : Work) (f : Field) → c.stage ≡ Some (Begin work f) → StopStep u p at seat source c me (Begin work f)
  begin_step work Kind e = let d = drafts_step work Kind Mask e (omega arith) refl in search (d, arith)
  begin_step work Mask e = let d = drafts_step work Mask Active e (omega arith) refl in search (d, arith)
  begin_step work Active e = let d = drafts_step work Active Func e (omega arith) refl in search (d, arith)
  begin_step work Func e = let d = drafts_step work Func Arg e (omega arith) refl in search (d, arith)
  begin_step work Arg e = let d = drafts_step work Arg Result e (omega arith) refl in search (d, arith)
  begin_step work Result e = let d = drafts_step work Result Todo e (omega arith) refl in search (d, arith)
  begin_step work Todo e = let d = drafts_step work Todo Done e (omega arith) refl in search (d, arith)
  begin_step work Done e = let d = drafts_step work Done Ack e (omega arith) refl in search (d, arith)
  begin_step work Ack e = let d = drafts_step work Ack State e (omega arith) refl in search (d, arith)
  begin_step work State e = let d = drafts_step work State Roll e (omega arith) refl in search (d, arith)
  begin_step work Roll e = let y = begins_source work Roll e in
      let shows = moved_source u seat source me (state_after u p at c me (Begin work Roll)) (at_then u at c me (Begin work Roll)) (Owns work)
      (roll_stored u p at seat source h me work 0 y.1) in
      search (shows, (begins_seat work Roll e), arith)

  pub enter_kind : (slot : ℕ) → c.stage ≡ Some (EnterKind slot) → StopStep u p at seat source c me (EnterKind slot)
  enter_kind slot e = let x : (work : Work) × (seat me ≡ In slot work 0 0 Rests) = subst (λ (st : Option StopStage). SitsAt u me c st (seat me)) e s.seat in
      let y : OwnsIf c.is_open (source me) = subst (λ (st : Option StopStage). SourceSits c.is_open st (source me)) e s.source in
      let w = work_words u p at seat source h slot me x.0 0 0 Rests x.1 in
      record {
        seat_after = seat me;
        source_after = source me;
        shows = still u seat source me (state_after u p at c me (EnterKind slot)) at h;
        sits = record { below = s.below; irq = s.irq; seat = (x.0, x.1, ap kind_at w.kind ∙ kind_back x.0.kind); source = y; gate_held = tt };
      }

  pub enter_mask : (slot : ℕ) (kind : KindOf) → c.stage ≡ Some (EnterMask slot kind) → StopStep u p at seat source c me (EnterMask slot kind)
  enter_mask slot kind e = let x : (work : Work) × (seat me ≡ In slot work 0 0 Rests) × (kind ≡ work.kind) = search arith in
      let y : OwnsIf c.is_open (source me) = subst (λ (st : Option StopStage). SourceSits c.is_open st (source me)) e s.source in
      let w = work_words u p at seat source h slot me x.0 0 0 Rests x.1 in
      search ((still u seat source me (state_after u p at c me (EnterMask slot kind)) at h), arith)

  pub enter_active : (slot : ℕ) (kind : KindOf) (mask : ℕ) → c.stage ≡ Some (EnterActive slot kind mask) → StopStep u p at seat source c me
      (EnterActive slot kind mask)
  enter_active slot kind mask e = let shows' = still u seat source me (state_after u p at c me (EnterActive slot kind mask)) at h in search (shows', arith)

  pub read_key : (k : ℕ) → c.stage ≡ Some (ReadKey k) → StopStep u p at seat source c me (ReadKey k)
  read_key k e =
      search ((still u seat source me (state_after u p at c me (ReadKey k)) at (key_read u p at seat source h me k 0 (search (h.present.irq, arith)))), arith)

  pub read_site : (i : ℕ) → c.stage ≡ Some (ReadSite i) → StopStep u p at seat source c me (ReadSite i)
  read_site i e = search ((still u seat source me (state_after u p at c me (ReadSite i)) at (site_read u p at seat source h me i 0)), arith)

  -- the load of a nudge is a reading
  pub nudge_key : (k : ℕ) (up : Bool) → c.stage ≡ Some (NudgeKey k up) → StopStep u p at seat source c me (NudgeKey k up)
  nudge_key k up e =
      let x : (c.interrupts ≡ true) × (u.online me ≡ true) × (k < u.keys) × AtRest = subst (λ (st : Option StopStage). SitsAt u me c st (seat me)) e s.seat in
      let y : OwnsIf c.is_open (source me) = subst (λ (st : Option StopStage). SourceSits c.is_open st (source me)) e s.source in
      let on : p.now.irq me ≡ true = h.present.irq me ∙ (sym s.irq ∙ x.0) in
      let shows' = still u seat source me (state_after u p at c me (NudgeKey k up)) at (key_read u p at seat source h me k 0 on) in
      search (shows', go x y ((lawful_when_on u p.now at seat h.present me x.1 on).keys k (omega arith)) (count_after (nudge_of up) (at (Key k))) refl, arith)
    where
      go : (c.interrupts ≡ true) × (u.online me ≡ true) × (k < u.keys) × AtRest → OwnsIf c.is_open (source me) → IsKeyWord (at (Key k)) → (o : Option ℕ) →
          count_after (nudge_of up) (at (Key k)) ≡ o →
          ControlFits u me (at Gate) (nudge_on c k (at (Key k)) o).control (seat me) (source me)
      go x y fits None e = record { below = s.below; irq = s.irq; seat = x.3; source = y; gate_held = tt }
      go x y fits (Some new) e = either (xor (is_on (at (Key k))) (is_on new)) refl
        where
          either : (b : Bool) → xor (is_on (at (Key k))) (is_on new) ≡ b → ControlFits u me (at Gate) (cond b (stop_ends c Note.Stop)
              (stop_goes c (ExchangeKey k (at (Key k)) new))).control (seat me) (source me)
          either true z = record { below = s.below; irq = s.irq; seat = x.3; source = y; gate_held = tt }
          either false z = search (one_apart, xor_same, left_in_form, arith)

  -- its compare-exchange
  pub exchange_key : (k expected new : ℕ) → c.stage ≡ Some (ExchangeKey k expected new) → StopStep u p at seat source c me (ExchangeKey k expected new)
  exchange_key k expected new e = let x : (c.interrupts ≡ true) × (u.online me ≡ true) × (k < u.keys) × IsNudge expected new × AtRest = search arith in
      let shows' = still u seat source me (state_after u p at c me (ExchangeKey k expected new)) (at_then u at c me (ExchangeKey k expected new)) (search
      (go, x.3, arith)) in
      search (shows', arith)
    where
      go : u.online me ≡ true → p.now.irq me ≡ true → IsNudge expected new → (b : Bool) → (at (Key k) == expected) ≡ b →
          StopShows u (told u p me Act.Cas (Key k) (Some (at (Key k))) (cond b (Some new) None) 0)
          (put_if put_word at (Key k) (cond b (Some new) None)) seat source
      go online on nudge true z = key_exchanged u p at seat source h me k (at (Key k)) new s.below online on refl (search arith) 0
      go online on nudge false z = h

  -- the looks of a source
  pub load_done : c.stage ≡ Some LoadDone → StopStep u p at seat source c me LoadDone
  load_done e = let x : AtRest = subst (λ (st : Option StopStage). SitsAt u me c st (seat me)) e s.seat in
      let y : (c.is_open ≡ true) × ((work : Work) × (source me ≡ Owns work)) = search arith in
      let g = go x y.0 y.1.0 y.1.1 (at (Slot me Done) == 0) refl in
      record { seat_after = seat me; source_after = g.0; shows = g.1; sits = g.2 }
    where
      open_done : (work : Work) → source me ≡ Owns work → (at (Slot me Done) == 0) ≡ false → at (Slot me Done) ≡ 1
      open_done work own ne = search (h.sources, h.present.slots, eq-eqb, arith)

      go : AtRest → c.is_open ≡ true → (work : Work) → source me ≡ Owns work → (b : Bool) → (at (Slot me Done) == 0) ≡ b →
          (y : Source) × (StopShows u p at (put seat me (seat me)) (put source me y)) × ControlFits u me (at Gate) (cond b (stop_ends c Note.Pending)
          (stop_goes c LoadResult)).control (seat me) y
      go x op work own true z = (
        source me,
        still u seat source me p at h,
        record { below = s.below; irq = s.irq; seat = x; source = subst (λ b. OwnsIf b (source me)) (sym op) (work, own); gate_held = tt },
      )
      go x op work own false z = (
        Collects work,
        moved_source u seat source me p at (Collects work) (done_loaded u p at seat source h me work own (open_done work own z)),
        record { below = s.below; irq = s.irq; seat = x; source = (op, (work, refl)); gate_held = tt },
      )

  pub load_result : c.stage ≡ Some LoadResult → StopStep u p at seat source c me LoadResult
  load_result e = let y : (c.is_open ≡ true) × ((work : Work) × (source me ≡ Collects work)) = search arith in
      search ((moved_source u seat source me (state_after u p at c me LoadResult) at Shut (result_loaded u p at seat source h me y.1.0 0 y.1.1)), arith)
