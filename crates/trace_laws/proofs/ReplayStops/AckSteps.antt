-- The step of a CPU that acknowledges a phase.
use Rattle.trace_laws.proofs.Names.{Bool, Kind, List, Multi, None, Ok, One, Option, Some, Task, [], acked_by, ap, arith, cond, eqb-true, false, get_or-set_same}
use Rattle.trace_laws.proofs.Names.{goes, has, is_cpu, ne_eqb, not, pos, refl, slice_set, stop_at, subst, sym, true, with_stop, ℕ, ◌&&◌, ◌+◌, ◌==◌, ◌∙◌, ◌∷◌}
use Rattle.trace_laws.proofs.Names.{◌≡◌, ◌≢◌}
use Rattle.trace_laws.proofs.ReplayNames.{Advance, Alters, AnswerIs, Calling, Calls, Change, Idle, In, Inside, Note, Patch, Patches, Patching, PhaseIs}
use Rattle.trace_laws.proofs.ReplayNames.{Present, Refills, Rests, RunnerShows, Slot, Standing, RoleStands, Stop, StopOutcome, StopStage}
use Rattle.trace_laws.proofs.ReplayNames.{StopState, Visit, Whole}
use Rattle.trace_laws.proofs.ReplayNames.{Word, Work, acknowledged, carried, given_by, has_called, has_entered, irq_of, is_called, leaves, one_less, put}
use Rattle.trace_laws.proofs.ReplayNames.{put_other, put_same, put_word, raiser_of, stop_ends, stop_goes, visit_acked, with_on}
use Rattle.smp_words.specs.declared.field.Field.TheVariants as field
use Rattle.smp_words.specs.declared.seen.Note.TheVariants as note
use Rattle.smp_stop_steps.specs.declared.stage.RoundStage.TheVariants as round
use Rattle.smp_stop_steps.specs.{Tells.called_more, Tells.carried_call, Tells.unpatched}
use Rattle.trace_model.specs.declared.event.Event.TheVariants as event
use Rattle.trace_model.specs.declared.event.StopEvent.TheVariants as stops
use Rattle.trace_laws.proofs.ReplayStops.AckEvents as acking
use Rattle.trace_laws.proofs.ReplayStops.TurnSteps as turns
use Rattle.trace_laws.proofs.{ReplayCalls.StepEvents.by, ReplayStops.Here.Here, ReplayStops.Here.my, ReplayStops.Here.parts, ReplayStops.PhaseEvents.acks_told}
use Rattle.trace_laws.proofs.{ReplayStops.PhaseEvents.leaves_told, ReplayStops.PhaseEvents.told_acked, ReplayStops.StageSteps.Accepted}
use Rattle.trace_laws.proofs.{ReplayStops.StepEvents.ReachesStops, ReplayStops.StepKinds.Goes}
use Rattle.smp_words.specs.declared.phase.TheConstants.{PREPARE, DISABLE_IRQ, RUN, EXIT}

module _ (known : Here) where
  open known use {p, shown, me, below, pasts, s, f}
  open parts known use {U, At, C, Old}

  abbrev Made : StopStage → Type 0
  Made stage = Accepted known stage

  -- a CPU acknowledges
  module _ (slot a : ℕ) (w : Work) (at_seat : shown.seat me ≡ In slot w a (a + 1) Rests) (kind : w.kind ≢ One) (x : Visit) (answer : ℕ) (ran : Bool)
      (called : a + 1 ≡ RUN → has w.active me ≡ true → (w.kind ≡ Multi) × (has_entered (p.calling me) ≡ true)) where
    abbrev here : RoleStands p.now me (In slot w a (a + 1) Rests)
    here = turns.st known slot a (a + 1) w Rests at_seat

    abbrev Ack : ℕ
    Ack = At (Slot slot field.Ack)

    abbrev Next : Stop
    Next = acknowledged (p.now.stop slot) me (a + 1) (At (Slot slot field.Ack))

    abbrev At' : Word → ℕ
    At' = put_word At (Slot slot field.Ack) (one_less (At (Slot slot field.Ack)))

    abbrev Acked : Present
    Acked = record (p.now) {
      stop = put p.now.stop slot (acknowledged (p.now.stop slot) me (a + 1) (At (Slot slot field.Ack)));
      patching = cond (a + 1 == RUN) (unpatched me p.now.patching) p.now.patching;
    }

    abbrev Q : Bool → StopState
    Q left = record p {
      now = cond left (leaves Acked me slot (p.now.stop slot).work) Acked;
      calls = cond (a + 1 == RUN) (called_more p.calls me (p.calling me)) p.calls;
      calling = cond (a + 1 == RUN) (put p.calling me (carried me p.now.patching (p.calling me))) p.calling;
    }

    -- a CPU that has called its function has called it still
    carried_same : (k : Kind) (g : Calling) → has_called k (carried_call g) ≡ has_called k g
    carried_same k Idle = refl
    carried_same One (Calls call) = refl
    carried_same _ _ = refl

    not_mine : (d j : ℕ) (y : Work) (count : ℕ) (made rest : List Change) → shown.seat d ≡ Alters j y count made rest → d ≢ me
    not_mine d j y count made rest at e = search arith

    calls_same : (k : Kind) (g : Patching) → RunnerShows U.first g shown.seat → has_called k (carried me g (p.calling me)) ≡ has_called k (p.calling me)
    calls_same k Whole r = carried_same k (p.calling me)
    calls_same k (Patches d y count made rest) r = rw (ne_eqb d me (not_mine d r.1.0 y count made rest r.1.1)) (carried_same k (p.calling me))

    -- of the active CPU of a patch nothing is changed here
    patch_same : (three : Bool) → (a + 1 == RUN) ≡ three → (p.now.stop slot).work.kind ≡ Patch → has (p.now.stop slot).work.active me ≡ true
        → (cond three (put p.calling me (carried me p.now.patching (p.calling me))) p.calling) me ≡ p.calling me
    patch_same true e patch active =
        let k = called (eqb-true (a + 1) RUN e) (ap (λ (z : Work). has z.active me) (sym here.3) ∙ active) in
        absurd (apart (sym k.0 ∙ (ap (λ (z : Work). z.kind) (sym here.3) ∙ patch)))
      where
        apart : Multi ≡ Patch → ⊥
        apart z = absurd cc
    patch_same false e patch active = refl

    unpatched_same : (g : Patching) → RunnerShows U.first g shown.seat → unpatched me g ≡ g
    unpatched_same Whole r = refl
    unpatched_same (Patches d y count made rest) r = rw (ne_eqb d me (not_mine d r.1.0 y count made rest r.1.1)) refl

    calling_other : (three : Bool) (d : ℕ) → d ≢ me → (cond three (put p.calling me (carried me p.now.patching (p.calling me))) p.calling) d ≡ p.calling d
    calling_other three d ne = search (put_other, arith)

    pub old_is : Old.phase ≡ a + 1
    old_is =
        let k : PhaseIs (Inside a (a + 1)) Old.phase = subst (λ (z : Standing). PhaseIs z Old.phase) here.1 ((my known).stop slot here.0).phase in
        k (λ z. absurd (omega arith))

    old_answer : Old.answer ≡ pos 0
    old_answer = subst (λ (z : Standing). AnswerIs z Old.answer) here.1 ((my known).stop slot here.0).answer

    open_now : (p.now.stop slot).is_open ≡ true
    open_now = turns.opened_here known slot a (a + 1) w Rests at_seat

    made : goes me (event.Stop (stops.Ack (a + 1))) s ≡ Ok (with_stop slot s (record (stop_at s slot) {
      acked = slice_set (stop_at s slot).acked me (a + 1);
      raiser = raiser_of (cond (At (Slot slot field.Ack) == 1) (Refills me) (p.now.stop slot).raising);
    }))
    made = acking.ack_made known At' (λ j. refl)
        (λ j. refl) refl slot a w Idle here
        (λ e. kind (ap (λ (z : Work). z.kind) (sym here.3) ∙ e)) (λ two. turns.irq_here known slot a (a + 1) w Rests at_seat ∙ off_two a two)
        (λ three active. let k = called three (ap (λ (z : Work). has z.active me) (sym here.3) ∙ active) in (ap (λ (z : Work). z.kind) here.3 ∙ k.0, k.1))
      where
        off_two : (n : ℕ) → n + 1 ≡ DISABLE_IRQ → irq_of (In slot w n (n + 1) Rests) ≡ false
        off_two n two =
            let one : n ≡ PREPARE = omega arith in
            rw one refl

    abbrev IsAcked : Bool → Bool → Type 0
    IsAcked left irq = Goes known At' (λ j. refl) (λ j. refl) (Q left) slot
        (acknowledged (p.now.stop slot) me (a + 1) (At (Slot slot field.Ack))) (Some slot) irq
        ((cond (a + 1 == RUN) (put p.calling me (carried me p.now.patching (p.calling me))) p.calling) me)

    stays : IsAcked false (p.now.irq me)
    stays = record {
      stop_is = λ j. refl;
      inside_is = here.0;
      irq_is = refl;
      calling_is = refl;
      inside_else = λ d ne. refl;
      irq_else = λ d ne. refl;
      calling_else = calling_other (a + 1 == RUN);
      standing_else = λ d ne. put_other (p.now.stop slot).standing me (Inside (a + 1) (a + 1)) d ne;
      gate_is = refl;
      work_is = refl;
      patching_is = search (unpatched_same, arith);
    }

    goes_out : IsAcked true true
    goes_out = record {
      stop_is = λ j. refl;
      inside_is = here.0;
      irq_is = put_same p.now.irq me true;
      calling_is = refl;
      inside_else = λ d ne. refl;
      irq_else = λ d ne. put_other p.now.irq me true d ne;
      calling_else = calling_other (a + 1 == RUN);
      standing_else = λ d ne. put_other (p.now.stop slot).standing me (Inside (a + 1) (a + 1)) d ne;
      gate_is = refl;
      work_is = refl;
      patching_is = search (unpatched_same, arith);
    }

    acked_now : (acknowledged (p.now.stop slot) me (a + 1) (At (Slot slot field.Ack))).standing me ≡ Inside (a + 1) (a + 1)
    acked_now = put_same (p.now.stop slot).standing me (Inside (a + 1) (a + 1))

    one_ack : ReachesStops (Q false) At' (slice_set pasts me Old) s ((me, event.Stop (stops.Ack (a + 1))) ∷ [])
    one_ack = acks_told known At' (λ j. refl)
        (λ j. refl) slot here.0 open_now (Q false)
        (acknowledged (p.now.stop slot) me (a + 1) (At (Slot slot field.Ack))) (a + 1)
        (raiser_of (cond (At (Slot slot field.Ack) == 1) (Refills me) (p.now.stop slot).raising))
        ((cond (a + 1 == RUN) (put p.calling me (carried me p.now.patching (p.calling me))) p.calling) me) acked_now refl refl refl refl
        (ap is_called here.1) (ap given_by here.1) (search (put_same, calls_same, arith)) (patch_same (a + 1 == RUN) refl) old_is old_answer
        stays made

    two_acks : a + 1 ≡ EXIT → (At (Slot slot field.Ack) == 1) ≡ false
        → ReachesStops (Q true) At' (slice_set pasts me Old) s ((me, event.Stop (stops.Ack (a + 1))) ∷ ((me, event.Stop stops.On) ∷ []))
    two_acks exit last =
        let y = record (stop_at s slot) {
          acked = slice_set (stop_at s slot).acked me (a + 1);
          raiser = raiser_of (cond (At (Slot slot field.Ack) == 1) (Refills me) (p.now.stop slot).raising);
        } in
        let told = turns.told_here known slot a (a + 1) w Rests at_seat in
        let size = (f.stops slot ((my known).stop slot here.0).below).sized in
        let acked : acked_by y me ≡ a + 1 = get_or-set_same (stop_at s slot).acked me (a + 1) 0 (rw size.acked (omega arith)) in
        let none : raiser_of (cond (At (Slot slot field.Ack) == 1) (Refills me) (p.now.stop slot).raising) ≡ None =
        rw (
          last,
          acking.nobody known At' (λ j. refl)
              (λ j. refl) refl slot a w Idle here,
        ) refl in
        leaves_told known At' (λ j. refl) (λ j. refl) slot here.0 open_now
        (Q true)
        (acknowledged (p.now.stop slot) me (a + 1) (At (Slot slot field.Ack))) y
        ((cond (a + 1 == RUN) (put p.calling me (carried me p.now.patching (p.calling me))) p.calling) me) (event.Stop (stops.Ack (a + 1)))
        (told_acked known At' (λ j. refl) (λ j. refl) slot here.0 open_now
        (acknowledged (p.now.stop slot) me (a + 1) (At (Slot slot field.Ack))) (a + 1)
        (raiser_of (cond (At (Slot slot field.Ack) == 1) (Refills me) (p.now.stop slot).raising)) acked_now refl refl refl refl
        (ap is_called here.1) (ap given_by here.1) goes_out.standing_else) (a + 1) acked_now (search (put_same, calls_same, arith))
        (patch_same (a + 1 == RUN) refl) refl old_is exit old_answer goes_out
        (λ d. refl) made
        (λ e. kind (ap (λ (z : Work). z.kind) (sym here.3) ∙ (ap (λ (z : Task). z.kind) (sym told.task) ∙ e))) (acked
        ∙ exit) (ap (λ (z : Option ℕ). is_cpu z me) none)
        (turns.irq_here known slot a (a + 1) w Rests at_seat ∙ off_three a exit)
      where
        off_three : (n : ℕ) → n + 1 ≡ EXIT → irq_of (In slot w n (n + 1) Rests) ≡ false
        off_three n e =
            let three : n ≡ RUN = omega arith in
            rw three refl

    abbrev AckSaid : Bool → Bool → Option Note
    AckSaid last exit = (cond {A = StopOutcome} last (stop_goes (record C { visit = Some (visit_acked x answer ran) }) (Advance
        (visit_acked x answer ran) (round.Refill ran)))
        (stop_ends (record C { visit = Some (visit_acked x answer ran); interrupts = cond exit true C.interrupts }) (cond exit note.Left
        (cond ran note.Ran (note.Moved (a + 1)))))).note

    pub ack_by : (last exit r : Bool) → ran ≡ r → (At (Slot slot field.Ack) == 1) ≡ last → (a + 1 == EXIT) ≡ exit
        → ReachesStops (Q (exit && not last)) At' (slice_set pasts me Old) s
        (by me (with_on (stops.Ack (a + 1)) (cond {A = StopOutcome} last
        (stop_goes (record C { visit = Some (visit_acked x answer ran) }) (Advance (visit_acked x answer ran) (round.Refill ran)))
        (stop_ends (record C { visit = Some (visit_acked x answer ran); interrupts = cond exit true C.interrupts }) (cond exit note.Left
        (cond r note.Ran (note.Moved (a + 1)))))).note))
    ack_by true true r e one four = one_ack
    ack_by true false r e one four = one_ack
    ack_by false true r e one four = two_acks (eqb-true (a + 1) EXIT four) one
    ack_by false false true e one four = one_ack
    ack_by false false false e one four = one_ack
