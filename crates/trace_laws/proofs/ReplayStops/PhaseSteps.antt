-- The step of a CPU that acknowledges a phase, refills the count, or raises the phase is accepted.
use Rattle.trace_laws.proofs.Names.{Bool, Multi, None, Ok, One, Option, Some, Task, [], ap, arith, cases_eq, cond, eqb-true, false, goes, has, inl, inr, lt-ltb}
use Rattle.trace_laws.proofs.Names.{nat_lt, ne_eqb, refl, slice_set, stop_at, subst, sym, true, true≢false, with_stop, ℕ, ◌+◌, ◌<◌, ◌==◌, ◌∙◌, ◌∷◌, ◌≡◌, ◌≢◌}
use Rattle.trace_laws.proofs.Names.{◌≤◌}
use Rattle.trace_laws.proofs.ReplayNames.{AckShows, Advance, AnswerIs, Calling, CarriesAt, Idle, In, Inside, OpenShows, PhaseIs, Present, Raises}
use Rattle.trace_laws.proofs.ReplayNames.{Raising, Rests, RoundStage, Sets, SitsInRound, Slot, Standing, RoleStands, StepEvents, Stop}
use Rattle.trace_laws.proofs.ReplayNames.{StopStage, StopState, Visit}
use Rattle.trace_laws.proofs.ReplayNames.{Word, Work, acked_of, acknowledges, cpus, has_entered, leaves, mask_weight, one_less, one_phase, phase_of, put}
use Rattle.trace_laws.proofs.ReplayNames.{put_other, put_same, put_word, raiser_of, stop_ends, stored_shut, visit_acked, with_on}
use Rattle.smp_words.specs.declared.field.Field.TheVariants as field
use Rattle.smp_words.specs.declared.seen.Note.TheVariants as note
use Rattle.smp_stop_steps.proofs.{State.Acknowledged.fills_me, State.Acknowledged.sets_me}
use Rattle.smp_stop_steps.specs.declared.stage.RoundStage.TheVariants as round
use Rattle.smp_stop_steps.specs.{Carries.IsAcking, Sits.IsLoaded, Sits.RunsIf, Stages.acked_on, Stop.raised, Stop.refilled}
use Rattle.smp_stop_steps.specs.{declared.known.Duty.TheVariants.Fills}
use Rattle.trace_model.specs.declared.event.Event.TheVariants as event
use Rattle.trace_model.specs.declared.event.StopEvent.TheVariants as stops
use Rattle.trace_events.specs.declared.step_events.StepEvents.TheVariants as told
use Rattle.trace_laws.proofs.ReplayStops.AckEvents as acking
use Rattle.trace_laws.proofs.ReplayStops.PhaseEvents.{leaves_told, raise_made, raises_told, told_raised}
use Rattle.trace_laws.proofs.ReplayStops.TurnSteps.{Made, irq_here, keeps_here, opened_here, sits, st, then_if, told_here, words_here}
use Rattle.trace_laws.proofs.{ReplayCalls.StepEvents.by, ReplayPatches.AckSteps.acks_made, ReplayPatches.PatchEvents.AreEntries, ReplayStops.AckSteps.ack_by}
use Rattle.trace_laws.proofs.{ReplayStops.AckSteps.old_is, ReplayStops.Here.Here, ReplayStops.Here.my, ReplayStops.Here.parts}
use Rattle.trace_laws.proofs.{ReplayStops.StepEvents.ReachesStops, ReplayStops.StepKinds.refilled_step}
use Rattle.smp_words.specs.declared.phase.TheConstants.{PREPARE, RUN, EXIT, OVER}

module _ (known : Here) where
  open known use {p, shown, me, below, pasts, s, f}
  open parts known use {U, At, C, Old}

  abbrev Does : StopStage → Type 0
  Does stage = Made known stage

  at_stage : (w : Visit) (stage : RoundStage) → C.stage ≡ Some (Advance w stage) → SitsInRound U me C.changes w stage (shown.seat me)
  at_stage = sits known

  -- a CPU that acknowledges RUN where it is active has called its function
  has_called_it : (x : Visit) (answer : ℕ) (ran : Bool) (w : Work) (g : Calling) → IsLoaded x w → RunsIf me x ran → IsAcking x answer ran g
      → x.acked + 1 ≡ RUN → has w.active me ≡ true → (w.kind ≡ Multi) × (has_entered g ≡ true)
  has_called_it x answer ran w g h1 h2 h3 h4 h5 = search (true≢false, arith)

  pub acknowledges_phase : (x : Visit) (answer : ℕ) (ran : Bool) → C.stage ≡ Some (Advance x (round.Acknowledge answer ran)) → AreEntries U s.words
      → Does (Advance x (round.Acknowledge answer ran))
  acknowledges_phase x answer ran e entries =
      let k = at_stage x (round.Acknowledge answer ran) e in
      elim k.3 [
        | inl y ↦ here k.0 k.1 y.0 y.1
        | inr y ↦ acks_made known x answer ran k.0 y.0 y.1 y.2.0 y.2.2 entries
      ]
    where
      here : (w : Work) → IsLoaded x w → shown.seat me ≡ In x.slot w x.acked (x.acked + 1) Rests → RunsIf me x ran
          → Does (Advance x (round.Acknowledge answer ran))
      here w loaded at_seat runs =
          let so = st known x.slot x.acked (x.acked + 1) w Rests at_seat in
          let phase = acking.phase_is known At (λ j. refl)
          (λ j. refl) refl x.slot x.acked w Idle so in
          let kind : w.kind ≢ One = search (phase, x.slot, so.3, x.acked, one_phase, words_here, arith) in
          let carries : IsAcking x answer ran (p.calling me) = subst (λ (o : Option StopStage). CarriesAt C.visit o (p.calling me)) e
          (shown.carries me below) in
          let called = has_called_it x answer ran w (p.calling me) loaded runs carries in
          let found = At (Slot x.slot field.Ack) in
          let told = ack_by known x.slot x.acked w at_seat kind x answer ran called (found == 1)
          (x.acked + 1 == EXIT) ran refl refl refl in
          let old = old_is known x.slot x.acked w at_seat kind x answer ran called in
          subst (λ (z : Standing). ReachesStops (acknowledges p me x.slot z found) (put_word At (Slot x.slot field.Ack) (one_less found))
          (slice_set pasts me Old) s
          (by me (with_on (stops.Ack Old.phase) (acked_on C (visit_acked x answer ran) ran found).note))) (sym so.1)
          (subst (λ (n : ℕ). ReachesStops (acknowledges p me x.slot (Inside x.acked (x.acked + 1)) found) (put_word At (Slot x.slot field.Ack)
          (one_less found)) (slice_set pasts me Old) s
          (by me (with_on (stops.Ack n) (acked_on C (visit_acked x answer ran) ran found).note))) (sym old) told)

  -- the count is refilled
  pub refills : (x : Visit) (ran : Bool) → C.stage ≡ Some (Advance x (round.Refill ran)) → Does (Advance x (round.Refill ran))
  refills x ran e =
      let k = at_stage x (round.Refill ran) e in
      let so = st known x.slot x.acked x.acked k.0 Fills k.2 in
      let n = mask_weight cpus x.mask in
      let q : StopState = record p { now = record (p.now) { stop = put p.now.stop x.slot (refilled (p.now.stop x.slot) me) } } in
      subst (λ (z : StopState). ReachesStops z (put_word At (Slot x.slot field.Ack) n) (slice_set pasts me Old) s [])
      (sym (then_if (p.now.stop x.slot).is_open q (stored_shut p x.slot field.Ack n) (opened_here known x.slot x.acked x.acked k.0 Fills k.2)))
      (refilled_step known (put_word At (Slot x.slot field.Ack) n)
      (λ j. refl) (λ j. refl)
      q Old x.slot (refilled (p.now.stop x.slot) me) x.acked so.0 so.1
      (record {
        stop_is = λ j. refl;
        inside_is = so.0;
        irq_is = refl;
        calling_is = refl;
        inside_else = λ d ne. refl;
        irq_else = λ d ne. refl;
        calling_else = λ d ne. refl;
        standing_else = λ d ne. refl;
        gate_is = refl;
        work_is = refl;
        patching_is = refl;
      }) so.1 refl refl refl (ap raiser_of (sym (fills_me me (p.now.stop x.slot).raising so.2))) refl refl)

  -- the phase is raised
  module _ (x : Visit) (ran : Bool) (w : Work) (at_seat : shown.seat me ≡ In x.slot w x.acked x.acked Sets) where
    abbrev so : RoleStands p.now me (In x.slot w x.acked x.acked Sets)
    so = st known x.slot x.acked x.acked w Sets at_seat

    abbrev Next : Stop
    Next = raised (p.now.stop x.slot) (x.acked + 1)

    abbrev At' : Word → ℕ
    At' = put_word At (Slot x.slot field.State) (x.acked + 1)

    abbrev Q : Bool → StopState
    Q over = record p {
      now = cond over (leaves (record (p.now) { stop = put p.now.stop x.slot (raised (p.now.stop x.slot) (x.acked + 1)) }) me x.slot (p.now.stop x.slot).work)
          (record (p.now) { stop = put p.now.stop x.slot (raised (p.now.stop x.slot) (x.acked + 1)) });
    }

    open_now : (p.now.stop x.slot).is_open ≡ true
    open_now = opened_here known x.slot x.acked x.acked w Sets at_seat

    words : OpenShows U.cpus (p.now.stop x.slot) (λ g. At (Slot x.slot g))
    words = words_here known x.slot x.acked x.acked w Sets at_seat

    raising : (p.now.stop x.slot).raising ≡ Raises me
    raising = sets_me me (p.now.stop x.slot).raising so.2

    not_calm : (p.now.stop x.slot).phase ≢ 0
    not_calm z = search (raising, words, arith)

    phase_is : (p.now.stop x.slot).phase ≡ x.acked
    phase_is =
        let k : AckShows U.cpus (p.now.stop x.slot).phase (p.now.stop x.slot).standing (Raises me) (At (Slot x.slot field.Ack)) =
        subst (λ (r : Raising). AckShows U.cpus (p.now.stop x.slot).phase (p.now.stop x.slot).standing r (At (Slot x.slot field.Ack))) raising
        (words.ack not_calm) in
        same (sym k.2 ∙ so.1)
      where
        same : Inside (p.now.stop x.slot).phase (p.now.stop x.slot).phase ≡ Inside x.acked x.acked → (p.now.stop x.slot).phase ≡ x.acked
        same e = cc

    small : x.acked ≤ EXIT
    small = (keeps_here known x.slot x.acked x.acked w Sets at_seat).4

    kind : (p.now.stop x.slot).work.kind ≢ One
    kind one = not_calm (one_phase (p.now.stop x.slot).work.kind (p.now.stop x.slot).phase one words.kinds)

    made : goes me (event.Stop (stops.Raise (x.acked + 1))) s ≡ Ok (with_stop x.slot s (record (stop_at s x.slot) { phase = x.acked + 1; raiser = None }))
    made = raise_made known At' (λ j. refl)
        (λ j. refl) x.slot so.0 open_now (x.acked + 1) kind
        (let n = phase_is in omega (arith, n)) (ap raiser_of raising)

    one_raise : ReachesStops (Q false) At' (slice_set pasts me Old) s ((me, event.Stop (stops.Raise (x.acked + 1))) ∷ [])
    one_raise = raises_told known At' (λ j. refl)
        (λ j. refl) x.slot so.0 open_now (Q false)
        (raised (p.now.stop x.slot) (x.acked + 1)) (x.acked + 1) x.acked refl refl refl refl (λ d. refl)
        (record {
          stop_is = λ j. refl;
          inside_is = so.0;
          irq_is = refl;
          calling_is = refl;
          inside_else = λ d ne. refl;
          irq_else = λ d ne. refl;
          calling_else = λ d ne. refl;
          standing_else = λ d ne. refl;
          gate_is = refl;
          work_is = refl;
          patching_is = refl;
        }) made

    two_raises : x.acked ≡ EXIT → ReachesStops (Q true) At' (slice_set pasts me Old) s
        ((me, event.Stop (stops.Raise (x.acked + 1))) ∷ ((me, event.Stop stops.On) ∷ []))
    two_raises four =
        let i = (my known).stop x.slot so.0 in
        let told = told_here known x.slot x.acked x.acked w Sets at_seat in
        let old : Old.phase ≡ x.acked = (subst (λ (z : Standing). PhaseIs z Old.phase) so.1 i.phase) (λ z. absurd (omega arith)) in
        leaves_told known At' (λ j. refl) (λ j. refl) x.slot so.0 open_now
        (Q true)
        (raised (p.now.stop x.slot) (x.acked + 1)) (record (stop_at s x.slot) { phase = x.acked + 1; raiser = None }) (p.calling me)
        (event.Stop (stops.Raise (x.acked + 1)))
        (told_raised known At' (λ j. refl) (λ j. refl) x.slot so.0 open_now
        (raised (p.now.stop x.slot) (x.acked + 1)) (x.acked + 1) refl refl refl refl (λ d. refl)) x.acked so.1 refl (λ k on. refl) refl old four
        (subst (λ (z : Standing). AnswerIs z Old.answer) so.1 i.answer)
        (record {
          stop_is = λ j. refl;
          inside_is = so.0;
          irq_is = put_same p.now.irq me true;
          calling_is = refl;
          inside_else = λ d ne. refl;
          irq_else = λ d ne. put_other p.now.irq me true d ne;
          calling_else = λ d ne. refl;
          standing_else = λ d ne. refl;
          gate_is = refl;
          work_is = refl;
          patching_is = refl;
        }) (λ d. refl) made (λ e. kind (sym (ap (λ (z : Task). z.kind) told.task) ∙ e))
        ((told.members me below).acked_is ∙ (ap acked_of so.1 ∙ four)) refl
        (irq_here known x.slot x.acked x.acked w Sets at_seat ∙ rw four refl)

    raise_by : (exit r : Bool) → ran ≡ r → (x.acked == EXIT) ≡ exit → ReachesStops (Q exit) At' (slice_set pasts me Old) s
        (by me (with_on (stops.Raise (x.acked + 1)) (stop_ends (record C { interrupts = cond exit true C.interrupts }) (cond exit note.Left
        (cond r note.Ran (note.Moved x.acked)))).note))
    raise_by true r e four = two_raises (eqb-true x.acked EXIT four)
    raise_by false true e four = one_raise
    raise_by false false e four = one_raise

  over_is : (n : ℕ) → (n == EXIT) ≡ (n + 1 == OVER)
  over_is n = search (cases_eq, ne_eqb, arith)

  pub raises_phase : (x : Visit) (ran : Bool) → C.stage ≡ Some (Advance x (round.Raise ran)) → Does (Advance x (round.Raise ran))
  raises_phase x ran e =
      let k = at_stage x (round.Raise ran) e in
      let w = k.0 in
      let n = x.acked + 1 in
      let said = (stop_ends (record C { interrupts = cond (x.acked == EXIT) true C.interrupts }) (cond (x.acked == EXIT) note.Left (cond ran note.Ran
      (note.Moved x.acked)))).note in
      let at' = put_word At (Slot x.slot field.State) n in
      let moved : Present = record (p.now) { stop = put p.now.stop x.slot (raised (p.now.stop x.slot) n) } in
      let q = λ (over : Bool). record p { now = cond over (leaves moved me x.slot (p.now.stop x.slot).work) moved } in
      let high = small x ran w k.2 in
      let some : PREPARE < n = above x.acked (λ z. (not_calm x ran w k.2) ((phase_is x ran w k.2) ∙ z)) in
      let one = raise_by x ran w k.2 (x.acked == EXIT) ran refl refl in
      let two = subst (λ (b : Bool). ReachesStops (q b) at' (slice_set pasts me Old) s (by me (with_on (stops.Raise n) said))) (over_is x.acked) one in
      let three = subst (λ (m : ℕ). ReachesStops (q (n == OVER)) at' (slice_set pasts me Old) s (by me (with_on (stops.Raise m) said))) (sym (omega arith)) two
      in
      let four = subst (λ (z : StepEvents). ReachesStops (q (n == OVER)) at' (slice_set pasts me Old) s (by me z))
      (sym (then_if (nat_lt PREPARE n) (with_on (stops.Raise (phase_of n)) said) told.Nothing (lt-ltb PREPARE n some))) three in
      subst (λ (z : StopState). ReachesStops z at' (slice_set pasts me Old) s (by me (cond (nat_lt PREPARE n) (with_on (stops.Raise
      (phase_of n)) said) told.Nothing)))
      (sym (then_if (p.now.stop x.slot).is_open (q (n == OVER)) (stored_shut p x.slot field.State n) (open_now x ran w k.2))) four
    where
      above : (m : ℕ) → m ≢ 0 → PREPARE < m + 1
      above m ne = omega arith
