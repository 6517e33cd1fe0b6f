-- Who may make which step: what holds of the stops before it.
use Rattle.std.proofs.Common.{◌≡◌, ℕ, ◌+◌, [], true, false, ⊎_elim, Some, None, sym, subst, refl, ◌∙◌, arith, eqb-true}
use Rattle.smp_stop_steps.specs.{word_of, seen_of, Access, Field, Work, Word, Gate, Slot, HasCompleted, patch_answer, IsThrough, MayStore, MayStoreIf, MaySee}
use Rattle.smp_stop_steps.specs.{unfinished, plan_at, StopRole, In, Alters, Closes, Duty, Rests, Sets, RoleStands, StopShows}
use Rattle.smp_stop_steps.specs.{RunsIf, HoldsGate, IsLoaded, IsThroughAll}
use Rattle.smp_stop_steps.specs.{SitsAt, SitsInCompletion, SitsInRound, SourceSits, DoneShows, Source, Owns, Collects, SourceShows, OwnerShows}
use Rattle.smp_stop_steps.specs.{StopControlValue, completion_access, round_access, stop_access, Setup, StopState, Standing, Inside, Ended, is_of}
use Rattle.smp_stop_steps.specs.{CompletionStage, RoundStage, StopStage, TakeGate, OpenGate, Begin, Enter, Advance, Complete}
use Rattle.smp_stop_steps.specs.{Close, LoadDone, LoadResult, Visit, Sits.ControlFits}
use Rattle.smp_stop_steps.proofs.State.Acknowledged.{fills_me, rests_me, sets_me}
use Rattle.smp_stop_steps.proofs.{State.Gates.gate_free, State.Gates.gate_mine, Basics.Counts.sum_zero, State.Raises.in_machine, State.Works.called_is}
use Rattle.smp_stop_steps.proofs.{Steps.Completions.one_phase, State.Phases.is_open_inside, State.Phases.keeps_inside, State.Raises.all_acknowledged}
use Rattle.smp_stop_steps.specs.round
use Rattle.smp_stop_steps.specs.Names.{DISABLE_IRQ}

completed_is : (x : Standing) → is_of x ≡ true → unfinished x ≡ 0 → HasCompleted x
completed_is x of z = search arith

module _ (u : Setup) (p : StopState) (at : Word → ℕ) (seat : ℕ → StopRole) (source : ℕ → Source) (h : StopShows u p at seat source) (c : StopControlValue)
    (me : ℕ)
    (s : ControlFits u me (at Gate) c (seat me) (source me)) where
  abbrev May : Access → Type 0
  May access = let seen = seen_of me access (at (word_of access)) None in MaySee p me seen.act seen.word seen.found seen.put

  abbrev slot : ℕ → Field → ℕ
  slot j g = at (Slot j g)

  stands : (x : StopRole) → seat me ≡ x → RoleStands p.now me x
  stands x e = subst (RoleStands p.now me) e (h.present.stands me)

  source_is : (y : Source) → source me ≡ y → SourceShows u p.gate (p.now.stop me) (slot me) me y
  source_is y e = subst (SourceShows u p.gate (p.now.stop me) (slot me) me) e (h.sources me)

  open_in : (j : ℕ) (w : Work) (a l : ℕ) (t : Duty) → seat me ≡ In j w a l t → (p.now.stop j).is_open ≡ true
  open_in j w a l t e = is_open_inside u.cpus (p.now.stop j) (slot j) (h.present.slots j) me (Inside a l) (stands (In j w a l t) e).1 refl

  -- a store to an open slot, and to one that is not
  stored_open : (j n : ℕ) (f : Field) → (p.now.stop j).is_open ≡ true → MayStore p me j f n → MayStoreIf (p.now.stop j).is_open p me j f n
  stored_open j n f op may = subst (λ b. MayStoreIf b p me j f n) (sym op) may

  stored_shut : (n : ℕ) (f : Field) → (p.now.stop me).is_open ≡ false → p.gate ≡ Some me → MayStoreIf (p.now.stop me).is_open p me me f n
  stored_shut n f shut gate = subst (λ b. MayStoreIf b p me me f n) (sym shut) (refl, gate)

  -- through all phases, and with nothing to do for the next one
  through : (j : ℕ) (w : Work) (v : Visit) → IsLoaded v w → IsThroughAll v → seat me ≡ In j w v.acked v.acked Rests → IsThrough (p.now.stop j) me v.acked
  through j w v loaded all is = search (stands, v.acked, h.present.slots, open_in, one_phase, rests_me, arith)

  raised : (j : ℕ) (w : Work) (a : ℕ) → seat me ≡ In j w a a Sets → MayStore p me j Field.State (a + 1)
  raised j w a is = search (stands, open_in, h.present.slots, sets_me, all_acknowledged, arith)

  in_round : (v : Visit) (stage : RoundStage) → SitsInRound u me c.changes v stage (seat me) → May (round_access u.cpus c.changes v stage)
  in_round v (round.Acknowledge answer ran) x = ⊎_elim
      (λ (y : (seat me ≡ In v.slot x.0 v.acked (v.acked + 1) Rests) × RunsIf me v ran). let st = stands (In v.slot x.0 v.acked (v.acked + 1) Rests) y.0 in
      (st.0, (v.acked, st.1, phase v.acked st.1)))
      (λ (y : (v.acked ≡ DISABLE_IRQ) × (ran ≡ true)
      × ((count : ℕ) × (answer ≡ patch_answer x.0 count) × (seat me ≡ Alters v.slot x.0 count (plan_at u x.0 count) []))).
      let st = stands (Alters v.slot x.0 y.2.0 (plan_at u x.0 y.2.0) []) y.2.2 in (st.0, (2, st.1, phase 2 st.1))) x.3
    where
      phase : (a : ℕ) → (p.now.stop v.slot).standing me ≡ Inside a (a + 1) → (p.now.stop v.slot).phase ≡ a + 1
      phase a is = search (keeps_inside, h.present.slots, arith)
  in_round v (round.Refill ran) x = search (stands, v.acked, stored_open, open_in, fills_me, arith)
  in_round v (round.Raise ran) x = stored_open v.slot (v.acked + 1) Field.State (open_in v.slot x.0 v.acked v.acked Sets x.2) (raised v.slot x.0 v.acked x.2)
  in_round v _ x = search (stands, arith)

  in_completion : (v : Visit) (stage : CompletionStage) → SitsInCompletion v stage (seat me) → May (completion_access v stage)
  in_completion v stage x = search (stands, v.acked, stored_open, open_in, through, keeps_inside, h.present.slots, rests_me, arith)

  at_stage : (stage : StopStage) → SitsAt u me c (Some stage) (seat me) → SourceSits c.is_open (Some stage) (source me) →
      HoldsGate me (at Gate) (Some stage) → May (stop_access u.cpus me c.changes stage)
  at_stage TakeGate x y g = search (gate_free, eqb-true, arith)
  at_stage OpenGate x y g = gate_mine me p.gate (sym h.gate ∙ g)
  at_stage (Begin work f) x y g = search (source_is, stored_shut, arith)
  at_stage (Enter j) x y g = search (h.present.stands, called_is, h.present.slots, arith)
  at_stage (Advance v stage) x y g = in_round v stage x.1
  at_stage (Complete v stage) x y g = in_completion v stage x.1
  at_stage (Close j) x y g = let st = stands (Closes j) x.1 in stored_open j 1 Field.Done st.1 (refl, st.2)
  at_stage LoadDone x y g = let o : OwnerShows u (p.now.stop me) y.1.0 = source_is (Owns y.1.0) y.1.1 in (refl, o.is_open)
  at_stage LoadResult x y g = let o : OwnerShows u (p.now.stop me) y.1.0 × ((p.now.stop me).ending ≡ Ended) = source_is (Collects y.1.0) y.1.1 in
      let op = o.0.is_open in
      let d : DoneShows u.cpus (p.now.stop me).standing Ended (slot me Field.Done) = subst (λ e. DoneShows u.cpus (p.now.stop me).standing e
      (slot me Field.Done)) o.1 ((h.present.slots me).shows op).done in (
        refl,
        op,
        λ d' of.
            let member : is_of ((p.now.stop me).standing d') ≡ true = search (h.present.slots, arith) in
            completed_is ((p.now.stop me).standing d') member
            (sum_zero (λ e. unfinished ((p.now.stop me).standing e)) u.cpus d.1 d' (in_machine u.cpus (p.now.stop me).phase d' ((p.now.stop me).standing d')
            member ((h.present.slots me).keeps d'))),
      )
  at_stage _ x y g = search (stands, arith)

  pub may_see : (stage : StopStage) → c.stage ≡ Some stage → May (stop_access u.cpus me c.changes stage)
  may_see stage e = search (at_stage, c.is_open, arith)
