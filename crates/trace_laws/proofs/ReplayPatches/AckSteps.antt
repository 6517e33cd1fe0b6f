-- The acknowledgement of the CPU that has made a patch is accepted.
use Rattle.trace_laws.proofs.Names.{Bool, List, None, Ok, Option, Some, Task, [], ap, append-nil, arith, at_last, cases_eq, cond, cpu_at, eq-eqb, false, goes}
use Rattle.trace_laws.proofs.Names.{has, inl, inr, late, next_store, patch_left, refl, set-set, slice_set, stop_at, subst, sym, true, with_acked, with_patch}
use Rattle.trace_laws.proofs.Names.{with_stop, ℕ, ◌==◌, ◌∙◌, ◌∷◌, ◌≡◌}
use Rattle.trace_laws.proofs.ReplayNames.{Advance, Alters, AnswerIs, Called, Carries, Change, CpuIs, Idle, In, Inside, InsideIs, Leads, MadeIs, Patch, Refills}
use Rattle.trace_laws.proofs.ReplayNames.{Rests, Slot, Standing, RoleStands, StepEvents, Stop, StopIs, StopOutcome, StopStage, StopState, ToldPatch, ToldStop}
use Rattle.trace_laws.proofs.ReplayNames.{Visit, Word, Work, acknowledged, acknowledged_in, acknowledges, carried, front_of, given_by, is_called, one_less}
use Rattle.trace_laws.proofs.ReplayNames.{patch_answer, patch_now, plan_at, put_other, put_same, put_word, raiser_of, stop_goes, told_work, turn_ends}
use Rattle.trace_laws.proofs.ReplayNames.{visit_acked, with_on}
use Rattle.smp_words.specs.declared.field.Field.TheVariants as field
use Rattle.smp_stop_steps.specs.declared.stage.RoundStage.TheVariants as round
use Rattle.trace_model.specs.declared.event.Event.TheVariants as event
use Rattle.trace_model.specs.declared.event.StopEvent.TheVariants as stops
use Rattle.trace_model.specs.Step.{inside_goes, stop_goes as told_goes}
use Rattle.trace_events.specs.declared.step_events.StepEvents.TheVariants as told
use Rattle.trace_laws.proofs.ReplayPatches.PatchSteps as patching
use Rattle.trace_laws.proofs.ReplayStops.AckEvents as acking
use Rattle.trace_laws.proofs.{ReplayCalls.StepEvents.by, ReplayPatches.PatchEvents.AreEntries, ReplayPatches.PatchEvents.acks_patch}
use Rattle.trace_laws.proofs.{ReplayPatches.PatchEvents.answers_patch, ReplayStops.ChangedStates.stop_here, ReplayStops.Here.Here, ReplayStops.Here.my}
use Rattle.trace_laws.proofs.{ReplayStops.Here.parts, ReplayStops.PhaseEvents.told_acked, ReplayStops.StepEvents.ReachesStops, ReplayStops.StepEvents.stop_step}
use Rattle.trace_laws.proofs.{ReplayStops.StopEvents.made_low, ReplayStops.TurnSteps.Made}
use Rattle.smp_words.specs.declared.phase.TheConstants.{DISABLE_IRQ, RUN}

-- who is the last to acknowledge does not depend on the patch
acked_patch : (me phase : ℕ) (stop : ToldStop) (patch : Option ToldPatch)
    → acknowledged_in me phase true (record stop { patch = patch }) ≡ record (acknowledged_in me phase true stop) { patch = patch }
unfolding acknowledged_in
acked_patch me phase stop patch = by_late (late (with_acked me phase stop) phase)
  where
    by_late : (o : Option ℕ) → at_last o me true (with_acked me phase (record stop { patch = patch }))
        ≡ record (at_last o me true (with_acked me phase stop)) { patch = patch }
    by_late (Some c) = refl
    by_late None = refl

module _ (known : Here) where
  open known use {p, shown, me, below, pasts, sized, s, whole, cpus_are, f}
  open parts known use {U, At, C, Old}

  abbrev Does : StopStage → Type 0
  Does stage = Made known stage

  -- a CPU that has made all stores of its patch
  module _ (slot : ℕ) (w : Work) (count : ℕ) (at_seat : shown.seat me ≡ Alters slot w count (plan_at U w count) []) (entries : AreEntries U s.words) where
    abbrev Found : ℕ
    Found = At (Slot slot field.Ack)

    so : RoleStands p.now me (Alters slot w count (plan_at U w count) [])
    so = patching.so known slot w count (plan_at U w count) [] at_seat

    on : has w.active me ≡ true
    on = patching.active_now known slot w count (plan_at U w count) [] at_seat

    idle : p.calling me ≡ Idle
    idle = patching.idle known slot w count (plan_at U w count) [] at_seat

    here : InsideIs p s Old me slot
    here = (my known).stop slot so.0

    task : (stop_at s slot).task ≡ told_work w
    task = patching.task_is known slot w count (plan_at U w count) [] at_seat

    kind_is : (p.now.stop slot).work.kind ≡ Patch
    kind_is = ap (λ (z : Work). z.kind) so.3 ∙ so.4

    open_now : (p.now.stop slot).is_open ≡ true
    open_now = patching.open_now known slot w so.3 so.4 on so.0 so.1

    abbrev P : ToldPatch
    P = patch_left slot s

    lead : Leads s.words w.func (patch_now s.words (stop_at s slot)) []
    lead = patching.leads known slot w count (plan_at U w count) [] at_seat entries
        (sym (append-nil (plan_at U w count)))

    over : next_store slot s ≡ None
    over = subst (λ (n : ℕ). front_of s.words n (patch_left slot s) ≡ None) (sym (ap (λ (z : Task). z.func) task)) lead

    abbrev Acked : ToldStop
    Acked = record (stop_at s slot) {
      acked = slice_set (stop_at s slot).acked me RUN;
      raiser = raiser_of (cond (At (Slot slot field.Ack) == 1) (Refills me) (p.now.stop slot).raising);
    }

    abbrev Y : ToldStop
    Y = record (stop_at s slot) {
      acked = slice_set (stop_at s slot).acked me RUN;
      raiser = raiser_of (cond (At (Slot slot field.Ack) == 1) (Refills me) (p.now.stop slot).raising);
      patch = Some (patch_left slot s);
    }

    abbrev X : Stop
    X = acknowledged (p.now.stop slot) me RUN (At (Slot slot field.Ack))

    abbrev Q : StopState
    Q = acknowledges p me slot (Inside DISABLE_IRQ RUN) (At (Slot slot field.Ack))

    abbrev At' : Word → ℕ
    At' = put_word At (Slot slot field.Ack) (one_less (At (Slot slot field.Ack)))

    sits : RoleStands p.now me (In slot w DISABLE_IRQ RUN Rests)
    sits = (so.0, so.1, so.2, so.3)

    acked_now : acknowledged_in me RUN true (record (stop_at s slot) { patch = Some (patch_left slot s) })
        ≡ record (stop_at s slot) {
          acked = slice_set (stop_at s slot).acked me RUN;
          raiser = raiser_of (cond (At (Slot slot field.Ack) == 1) (Refills me) (p.now.stop slot).raising);
          patch = Some (patch_left slot s);
        }
    acked_now = acked_patch me RUN (stop_at s slot) (Some (patch_left slot s))
        ∙ ap (λ (z : ToldStop). record z { patch = Some (patch_left slot s) })
        (acking.acknowledged_as known At' (λ j. refl) (λ j. refl) refl slot DISABLE_IRQ w
        Idle
        sits (At (Slot slot field.Ack) == 1) refl)

    made : goes me (event.Stop (stops.Ack RUN)) s ≡ Ok (with_stop slot s (record (stop_at s slot) {
      acked = slice_set (stop_at s slot).acked me RUN;
      raiser = raiser_of (cond (At (Slot slot field.Ack) == 1) (Refills me) (p.now.stop slot).raising);
      patch = Some (patch_left slot s);
    }))
    unfolding told_goes inside_goes
    made =
        let here_told = patching.told_now known slot w so.3 so.4 on so.0 so.1 in
        made_low me below (acks_patch s me whole slot (omega (arith, here.below)) ((my known).inside ∙ so.0) (ap (λ (z : Task). z.kind) task ∙ so.4)
        (patching.told_active known slot w so.3 so.4 on so.0 so.1)
        (patching.acked_low known slot w so.3 so.4 on so.0 so.1)
        (here_told.phase ∙ patching.phase_now known slot w so.3 so.4 on so.0 so.1) over
        ∙ (ap (λ (z : ToldStop). Ok (with_stop slot (with_patch slot (patch_left slot s) s) z))
        (ap (acknowledged_in me RUN true) (stop_here s slot (record (stop_at s slot) { patch = Some (patch_left slot s) }) f.stops_are here.below) ∙ acked_now)
        ∙ ap (λ (z : List ToldStop). Ok (record s { stops = z })) (set-set s.stops slot (record (stop_at s slot) { patch = Some (patch_left slot s) }) Y)))

    stood_now : X.standing me ≡ Inside RUN RUN
    stood_now = put_same (p.now.stop slot).standing me (Inside RUN RUN)

    none_called : (cpu : ℕ) → X.standing cpu ≡ Called → has Acked.task.active cpu ≡ true → ⊥
    none_called cpu e active = elim (cases_eq cpu me) [
      | inl is ↦ apart (sym e ∙ (ap X.standing is ∙ stood_now))
      | inr ne ↦ patching.none_called known slot w so.3 so.4 on so.0 so.1 cpu
          (sym (put_other (p.now.stop slot).standing me (Inside RUN RUN) cpu ne) ∙ e) active
    ]
      where
        apart : Called ≡ Inside RUN RUN → ⊥
        apart z = absurd cc

    told_now : StopIs X Y
    told_now = patching.told_patched X Acked (Some (patch_left slot s))
        (told_acked known At' (λ j. refl) (λ j. refl) slot so.0 open_now X RUN
        (raiser_of (cond (At (Slot slot field.Ack) == 1) (Refills me) (p.now.stop slot).raising)) stood_now refl refl refl refl
        (ap is_called so.1) (ap given_by so.1) (λ d ne. put_other (p.now.stop slot).standing me (Inside RUN RUN) d ne)) kind_is none_called

    carries : Q.calling me ≡ Carries (patch_answer w count)
    carries = put_same p.calling me (carried me p.now.patching (p.calling me)) ∙ rw (so.5, eq-eqb me me refl) refl

    answers : MadeIs s.words Q.now.patching (Q.calling me) (Some (patch_left slot s))
    answers =
        rw carries (answers_patch U s.words w count (stop_at s slot) (plan_at U w count) [] (patching.small known
        slot w so.3 so.4 on so.0 so.1)
        (ap (λ (z : Task). z.func) task) (ap (λ (z : Task). z.arg) task)
        (patching.part known slot w count (plan_at U w count) [] at_seat)
        (patching.found known slot w count (plan_at U w count) [] at_seat)
        (λ change more e. e ∙ ap (λ (z : List Change). change ∷ z) (sym (append-nil more))))

    mine : CpuIs Q (with_stop slot s Y) Old me
    mine = record {
      inside = (my known).inside;
      irq = (my known).irq;
      stop = in_it;
      answer = (my known).answer;
      reads = (my known).reads;
    }
      where
        slot_here : stop_at (with_stop slot s Y) slot ≡ Y
        slot_here = stop_here s slot Y f.stops_are here.below

        stop_now : Q.now.stop slot ≡ X
        stop_now = put_same p.now.stop slot X

        it : InsideIs Q (with_stop slot s Y) Old me slot
        it = record {
          below = here.below;
          ran = rw (slot_here, stop_now, kind_is) (rw kind_is at here.ran);
          patch = λ k active. rw slot_here answers;
          phase = rw (stop_now, stood_now) (λ z. patching.old_phase known slot w so.3 so.4 on so.0 so.1);
          answer = rw (stop_now, stood_now) (subst (λ (z : Standing). AnswerIs z Old.answer) so.1 here.answer);
        }

        in_it : (j : ℕ) → p.now.inside me ≡ Some j → InsideIs Q (with_stop slot s Y) Old me j
        in_it j e = search (so, it, arith)

    acks : ReachesStops Q At' (slice_set pasts me Old) s ((me, event.Stop (stops.Ack RUN)) ∷ [])
    acks = stop_step p Q At At' pasts s me Old below sized cpus_are f (λ j. refl) (λ j. refl) slot X Y (cpu_at s me) here.below
        (record {
          stop_is = λ j. refl;
          inside = λ d ne. refl;
          irq = λ d ne. refl;
          calling = λ d ne. put_other p.calling me (carried me p.now.patching (p.calling me)) d ne;
          standing = λ d ne. put_other (p.now.stop slot).standing me (Inside RUN RUN) d ne;
          ran = λ d ne. refl;
          gate = refl;
          work = refl;
          patch = inr (patching.alone_now known slot w so.3 so.4 on so.0 so.1);
        }) told_now ((me, event.Stop (stops.Ack RUN)) ∷ []) (with_stop slot s Y, (made, refl)) mine

  pub acks_made : (x : Visit) (answer : ℕ) (ran : Bool) → (w : Work) → x.acked ≡ DISABLE_IRQ → ran ≡ true → (count : ℕ)
      → shown.seat me ≡ Alters x.slot w count (plan_at U w count) [] → AreEntries U s.words → Does (Advance x (round.Acknowledge answer ran))
  acks_made x answer ran w two is_true count at_seat entries =
      let st = so x.slot w count at_seat entries in
      let old = patching.old_phase known x.slot w st.3 st.4 (on x.slot w count at_seat entries) st.0 st.1 in
      let found = At (Slot x.slot field.Ack) in
      let y = visit_acked x answer ran in
      let goes_on = stop_goes (record C { visit = Some y }) (Advance y (round.Refill ran)) in
      let rests = turn_ends (record C { visit = Some y }) y.acked ran in
      let said : with_on (stops.Ack RUN) rests.note ≡ told.One (event.Stop (stops.Ack RUN)) = rw (two, is_true) refl in
      subst (λ (z : Standing). ReachesStops (acknowledges p me x.slot z found) (put_word At (Slot x.slot field.Ack) (one_less found)) (slice_set pasts me Old) s
      (by me (with_on (stops.Ack Old.phase) (cond (found == 1) goes_on rests).note))) (sym st.1)
      (subst (λ (n : ℕ). ReachesStops (acknowledges p me x.slot (Inside DISABLE_IRQ RUN) found) (put_word At (Slot x.slot field.Ack) (one_less found))
      (slice_set pasts me Old) s (by me (with_on (stops.Ack n) (cond (found == 1) goes_on rests).note))) (sym old)
      (subst (λ (z : StepEvents). ReachesStops (acknowledges p me x.slot (Inside DISABLE_IRQ RUN) found) (put_word At (Slot x.slot field.Ack) (one_less found))
      (slice_set pasts me Old) s (by me z)) (sym (said_by (found == 1) goes_on rests refl said)) (acks x.slot w count at_seat entries)))
    where
      said_by : (last : Bool) (a b : StopOutcome) → with_on (stops.Ack RUN) a.note ≡ told.One (event.Stop (stops.Ack RUN))
          → with_on (stops.Ack RUN) b.note ≡ told.One (event.Stop (stops.Ack RUN))
          → with_on (stops.Ack RUN) (cond last a b).note ≡ told.One (event.Stop (stops.Ack RUN))
      said_by true a b k l = k
      said_by false a b k l = l
