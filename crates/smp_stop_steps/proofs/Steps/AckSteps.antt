-- The steps that acknowledge a phase and set the next one, by a CPU's stage.
use Rattle.std.proofs.Common.{◌≡◌, ℕ, ◌+◌, ◌-◌, ◌≤◌, Bool, true, nat_lt, le-ltb, ne_eqb, ◌==◌, cond, sym, subst, ap, ◌∙◌, ◌⊎◌, inl, inr, arith, Option, Some}
use Rattle.std.proofs.Common.{None, []}
use Rattle.smp_words.proofs.Puts.{at_test}
use Rattle.smp_words.specs.declared.field.Field.TheVariants.{Ack}
use Rattle.smp_stop_steps.specs.{put, put_word, mask_weight, patch_answer, Alters, Fills, In, Rests, StopRole, Sets, StopShows}
use Rattle.smp_stop_steps.specs.{HasRunIf, RunsIf, IsLoaded, OwnsIf}
use Rattle.smp_stop_steps.specs.{Source, StopControlValue, stop_goes, turn_ends, visit_acked, Setup, StopState, Calling, StopStep, at_then, state_after, told}
use Rattle.smp_stop_steps.specs.{plan_at, Advance, StopStage, Visit, Work, Gate, Slot, Word, has, CarriesIn, CarriesAt, IsAcking}
use Rattle.smp_stop_steps.specs.{HasCalled, Sits.ControlFits, Act}
use Rattle.smp_stop_steps.proofs.Steps.Facts.{ack_bounds, ack_bounds_patched, patcher_active}
use Rattle.smp_stop_steps.proofs.Steps.Rounds.{ack_stored, ack_subtracted, ack_subtracted_patched, state_stored}
use Rattle.smp_stop_steps.proofs.{Basics.Bools.or_false, Basics.Bools.or_true, Steps.Same.moved_seat, Steps.RoundSteps.ack_small, Steps.StageSteps.less_one}
use Rattle.smp_stop_steps.proofs.{Steps.Stages.in_round, Steps.Stages.round_source}
use Rattle.smp_stop_steps.specs.round
use Rattle.smp_stop_steps.specs.Names.{DISABLE_IRQ, RUN}

module _ (u : Setup) (p : StopState) (at : Word → ℕ) (seat : ℕ → StopRole) (source : ℕ → Source) (h : StopShows u p at seat source) (c : StopControlValue)
    (me : ℕ)
    (s : ControlFits u me (at Gate) c (seat me) (source me)) (v : Visit) where
  -- where the CPU stands once the phase is acknowledged
  acked_sits : (answer : ℕ) (ran : Bool) (work : Work) → IsLoaded v work → OwnsIf c.is_open (source me) → c.interrupts ≡ nat_lt (v.acked + 1) 2 →
      HasRunIf me (visit_acked v answer ran) ran → (b : Bool) →
      ControlFits u me (at Gate)
      (cond b (stop_goes (record c { visit = Some (visit_acked v answer ran) }) (Advance (visit_acked v answer ran) (round.Refill ran)))
      (turn_ends (record c { visit = Some (visit_acked v answer ran) }) (v.acked + 1) ran)).control
      (In v.slot work (v.acked + 1) (v.acked + 1) (cond b Fills Rests)) (source me)
  acked_sits answer ran work loaded y irq run b = search (at_test, nat_lt, or_true, or_false, arith)

  pub acknowledge : CarriesIn c (p.calling me) → (answer : ℕ) (ran : Bool) → c.stage ≡ Some (Advance v (round.Acknowledge answer ran)) →
      StopStep u p at seat source c me (Advance v (round.Acknowledge answer ran))
  acknowledge k answer ran e = let r = in_round s v (round.Acknowledge answer ran) e in
      either r.1.0 r.1.1 r.1.2 r.1.3 (round_source s v (round.Acknowledge answer ran) e)
    where
      -- who acknowledges RUN has called its function, or is not to call one
      has_called : (work : Work) → IsLoaded v work → (b : Bool) → RunsIf me v b → (f : Calling) → IsAcking v answer b f → v.acked ≡ DISABLE_IRQ
          → HasCalled me work f
      has_called work loaded b runs f is two = search arith

      has_run : (b : Bool) → RunsIf me v b → HasRunIf me (visit_acked v answer ran) b
      has_run b runs = search arith

      patch_run : v.acked ≡ DISABLE_IRQ → ran ≡ true → (work : Work) → IsLoaded v work → (count : ℕ) →
          seat me ≡ Alters v.slot work count (plan_at u work count) [] → HasRunIf me (visit_acked v answer ran) ran
      patch_run two runs work loaded count is = record {
        at_run = λ _. ap (λ n. n + 1) two;
        active = λ _. ap (λ m. has m me) loaded.active ∙ (patcher_active u p at seat source h v.slot me work count (plan_at u work count) [] is ∙ sym runs);
      }

      either : (work : Work) → IsLoaded v work → v.acked ≤ RUN →
          ((seat me ≡ In v.slot work v.acked (v.acked + 1) Rests) × RunsIf me v ran) ⊎ ((v.acked ≡ DISABLE_IRQ) × (ran ≡ true) ×
          ((count : ℕ) × (answer ≡ patch_answer work count) × (seat me ≡ Alters v.slot work count (plan_at u work count) []))) →
          OwnsIf c.is_open (source me) → StopStep u p at seat source c me (Advance v (round.Acknowledge answer ran))
      either work loaded most (inl (is, calm)) y = let next = In v.slot work (v.acked + 1) (v.acked + 1) (cond (at (Slot v.slot Ack) == 1) Fills Rests) in
          let bounds = ack_bounds u p at seat source h v.slot me work v.acked is in
          let less = less_one (at (Slot v.slot Ack)) bounds.0 (ack_small (at (Slot v.slot Ack)) u.cpus h.setup.few bounds.1) in
          record {
            seat_after = next;
            source_after = source me;
            shows = subst (λ n. StopShows u (state_after u p at c me (Advance v (round.Acknowledge answer ran))) (put_word at (Slot v.slot Ack) n)
                (put seat me next) (put source me (source me))) (sym less)
                (moved_seat u seat source me (state_after u p at c me (Advance v (round.Acknowledge answer ran))) (put_word at (Slot v.slot Ack)
                (at (Slot v.slot Ack) - 1)) next
                (ack_subtracted u p at seat source h v.slot me work v.acked answer is
                (λ two. has_called work loaded ran calm (p.calling me) (subst (λ (st : Option StopStage). CarriesAt c.visit st (p.calling me)) e k) two)));
            sits = search (acked_sits, nat_lt, ne_eqb, or_false, has_run, arith);
          }
      either work loaded most (inr (two, runs, (count, answers, is))) y =
          let next = In v.slot work (v.acked + 1) (v.acked + 1) (cond (at (Slot v.slot Ack) == 1) Fills Rests) in
          let three : In v.slot work 3 3 (cond (at (Slot v.slot Ack) == 1) Fills Rests) ≡ next =
          ap (λ n. In v.slot work n n (cond (at (Slot v.slot Ack) == 1) Fills Rests)) (let z : 3 ≡ v.acked + 1 = omega arith in z) in
          let bounds = ack_bounds_patched u p at seat source h v.slot me work count (plan_at u work count) is in
          let less = less_one (at (Slot v.slot Ack)) bounds.0 (ack_small (at (Slot v.slot Ack)) u.cpus h.setup.few bounds.1) in
          let shows' = subst (λ n. StopShows u (state_after u p at c me (Advance v (round.Acknowledge answer ran))) (put_word at (Slot v.slot Ack) n) (put
          seat me next) (put source me (source me))) (sym less) (moved_seat u seat source me (state_after u p at c me (Advance v (round.Acknowledge answer
          ran))) (put_word at (Slot v.slot Ack) (at (Slot v.slot Ack) - 1)) next (subst (λ x. StopShows u (state_after u p at c me (Advance v
          (round.Acknowledge answer ran))) (put_word at (Slot v.slot Ack) (at (Slot v.slot Ack) - 1)) (put seat me x) source) three
          (ack_subtracted_patched u p at seat source h v.slot me work count (plan_at u work count) answer is))) in
          search (shows', acked_sits, le-ltb, patch_run, arith)

  pub refill : (ran : Bool) → c.stage ≡ Some (Advance v (round.Refill ran)) → StopStep u p at seat source c me (Advance v (round.Refill ran))
  refill ran e = let r = in_round s v (round.Refill ran) e in
      let work = r.1.0 in
      let next = In v.slot work v.acked v.acked Sets in
      let shows' = subst (λ m. StopShows u (told u p me Act.Store (Slot v.slot Ack) None (Some (mask_weight u.cpus m)) 0) (put_word at (Slot v.slot Ack)
      (mask_weight u.cpus m)) (put seat me next) (put source me (source me))) (sym r.1.1.mask) (moved_seat u seat source me (told u p me Act.Store (Slot
      v.slot Ack) None (Some (mask_weight u.cpus work.mask)) 0) (put_word at (Slot v.slot Ack) (mask_weight u.cpus work.mask)) next (ack_stored u p at
      seat source h v.slot me work v.acked v.acked 0 r.1.2)) in
      search (shows', round_source, arith)

  pub raise : (ran : Bool) → c.stage ≡ Some (Advance v (round.Raise ran)) → StopStep u p at seat source c me (Advance v (round.Raise ran))
  raise ran e = let r = in_round s v (round.Raise ran) e in
      let work = r.1.0 in
      let next = In v.slot work v.acked v.acked Rests in
      let shows' = moved_seat u seat source me (state_after u p at c me (Advance v (round.Raise ran))) (at_then u at c me (Advance v (round.Raise ran))) next
      (state_stored u p at seat source h v.slot me work v.acked v.acked 0 r.1.2) in
      search (shows', at_test, nat_lt, or_true, or_false, round_source, arith)
