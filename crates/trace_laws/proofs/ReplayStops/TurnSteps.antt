-- The step of a CPU in a turn of a rendezvous is accepted.
use Rattle.trace_laws.proofs.Names.{Bool, Kind, Multi, None, One, Option, Some, [], and_right, ap, arith, change_of, cond, eqb-false, eqb-true, false}
use Rattle.trace_laws.proofs.Names.{false≢true, has, inl, inr, refl, slice_set, stop_at, subst, sym, true, true≢false, ℕ, ◌&&◌, ◌++◌, ◌+◌, ◌==◌, ◌∙◌, ◌∷◌, ◌≡◌}
use Rattle.trace_laws.proofs.Names.{◌≢◌, ◌≤◌, ◌⊎◌}
use Rattle.trace_laws.proofs.ReplayNames.{Advance, Calls, CarriesAt, Duty, Idle, In, Inside, InsideIs, IsCalling, IsQuiet, Keeps, Note, OpenIs, OpenShows, Past}
use Rattle.trace_laws.proofs.ReplayNames.{Patch, Rests, RoundStage, StopRole, SitsAt, SitsInRound, Slot, Standing, RoleStands, Stop}
use Rattle.trace_laws.proofs.ReplayNames.{StopOutcome, StopStage}
use Rattle.trace_laws.proofs.ReplayNames.{StopState, Visit, Work, calls_now, irq_of, is_multi, is_new, is_open_inside, keeps_inside, looked_on, may_call}
use Rattle.trace_laws.proofs.ReplayNames.{of_arg, phase_of, put, put_all, put_other, put_same, reads, stands, stop_ends, stop_goes}
use Rattle.smp_words.specs.declared.field.Field.TheVariants as field
use Rattle.smp_words.specs.declared.seen.Note.TheVariants as note
use Rattle.smp_stop_steps.specs.declared.stage.RoundStage.TheVariants as round
use Rattle.smp_stop_steps.specs.{Sits.SitsAtRun, Tells.looked_by, Tells.tells}
use Rattle.trace_model.specs.declared.event.Event.TheVariants as event
use Rattle.trace_model.specs.declared.event.StopEvent.TheVariants as stops
use Rattle.trace_events.specs.declared.step_events.StepEvents.TheVariants as told
use Rattle.trace_laws.proofs.ReplayStops.StageSteps.{Accepted, else_if, loads, seen_so}
use Rattle.trace_laws.proofs.{ReplayCalls.StepEvents.by, ReplayStops.FunctionRuns.runs_told, ReplayStops.Here.Here, ReplayStops.Here.my, ReplayStops.Here.parts}
use Rattle.trace_laws.proofs.{ReplayStops.Moves.looked_step, ReplayStops.Moves.off_step, ReplayStops.StepEvents.ReachesStops}
use Rattle.smp_words.specs.declared.phase.TheConstants.{PREPARE, DISABLE_IRQ, RUN, OVER}

pub then_if : {A : Type 0} (b : Bool) (x y : A) → b ≡ true → cond b x y ≡ x
then_if b x y e = search (false≢true, arith)

module _ (known : Here) where
  open known use {p, shown, me, below, pasts, s, f, quiet}
  open parts known use {U, At, C, Old}

  abbrev pub Made : StopStage → Type 0
  Made stage = Accepted known stage

  pub seat_is : (x : StopRole) → shown.seat me ≡ x → RoleStands p.now me x
  seat_is x e = subst (RoleStands p.now me) e (shown.shows.present.stands me)

  pub sits : (w : Visit) (stage : RoundStage) → C.stage ≡ Some (Advance w stage) → SitsInRound U me C.changes w stage (shown.seat me)
  sits w stage e = (subst (λ (x : Option StopStage). SitsAt U me C x (shown.seat me)) e (shown.sits me below).seat).1

  -- a CPU that is in an open stop
  module _ (slot a l : ℕ) (w : Work) (t : Duty) (at_seat : shown.seat me ≡ In slot w a l t) where
    pub st : RoleStands p.now me (In slot w a l t)
    st = seat_is (In slot w a l t) at_seat

    i : InsideIs p s Old me slot
    i = (my known).stop slot st.0

    pub opened_here : (p.now.stop slot).is_open ≡ true
    opened_here = is_open_inside U.cpus (p.now.stop slot) (λ g. At (Slot slot g)) (shown.shows.present.slots slot) me (Inside a l) st.1 refl

    pub told_here : OpenIs (p.now.stop slot) (stop_at s slot)
    told_here = (f.stops slot i.below).shows opened_here

    pub words_here : OpenShows U.cpus (p.now.stop slot) (λ g. At (Slot slot g))
    words_here = (shown.shows.present.slots slot).shows opened_here

    pub keeps_here : Keeps U.cpus (p.now.stop slot).phase me (Inside a l)
    keeps_here = keeps_inside U.cpus (p.now.stop slot) (λ g. At (Slot slot g)) (shown.shows.present.slots slot) me (Inside a l) st.1

    pub irq_here : p.now.irq me ≡ irq_of (In slot w a l t)
    irq_here = shown.shows.present.irq me ∙ ap irq_of at_seat

    pub calling_here : IsCalling me (In slot w a l t) (p.calling me)
    calling_here = subst (λ (x : StopRole). IsCalling me x (p.calling me)) at_seat (shown.shows.callings me)

  -- a look at the phase
  module _ (slot a : ℕ) (w : Work) (at_seat : shown.seat me ≡ In slot w a a Rests) (kind : w.kind ≢ One) where
    abbrev found : ℕ
    found = At (Slot slot field.State)

    abbrev Looked : Bool → StopState
    Looked two = record p {
      now = record (p.now) {
        stop = put p.now.stop slot (stands (p.now.stop slot) me (looked_by ((p.now.stop slot).standing me) (At (Slot slot field.State))));
        irq = cond two (put p.now.irq me false) p.now.irq;
      };
      looks = put p.looks me (p.looks me ++ At (Slot slot field.State) ∷ []);
    }

    abbrev so : RoleStands p.now me (In slot w a a Rests)
    so = st slot a a w Rests at_seat

    found_is : (At (Slot slot field.State) ≡ a) ⊎ (At (Slot slot field.State) ≡ a + 1)
    found_is =
        let n = (words_here slot a a w Rests at_seat).state in
        elim (keeps_here slot a a w Rests at_seat).1 [
          | inl e ↦ inl (n ∙ sym e)
          | inr e ↦ inr (n ∙ sym e)
        ]

    found_small : At (Slot slot field.State) ≤ OVER
    found_small = let o = words_here slot a a w Rests at_seat in let n = o.state in let b = o.bound in omega (arith, n, b)

    looked_same : (j : ℕ) → put p.now.stop slot (stands (p.now.stop slot) me (looked_by ((p.now.stop slot).standing me) (At (Slot slot field.State)))) j
        ≡ put p.now.stop slot (stands (p.now.stop slot) me (Inside a (At (Slot slot field.State)))) j
    looked_same j = ap (λ (z : Standing). put p.now.stop slot (stands (p.now.stop slot) me (looked_by z (At (Slot slot field.State)))) j) so.1

    irq_other : (two : Bool) (d : ℕ) → d ≢ me → (cond two (put p.now.irq me false) p.now.irq) d ≡ p.now.irq d
    irq_other two d ne = search (put_other, arith)

    -- no event
    looks_on : (two : Bool) (new : Past) → (two ≡ true → p.now.irq me ≡ false) → new.answer ≡ Old.answer
        → (At (Slot slot field.State) ≢ 0 → new.phase ≡ At (Slot slot field.State)) → (new.phase ≡ RUN → p.now.irq me ≡ false)
        → ReachesStops (Looked two) At (slice_set pasts me new) s []
    looks_on two new off answer phase reads = looked_step known At
        (λ j. refl) (λ j. refl)
        slot a (At (Slot slot field.State)) so.0 so.1 new answer (Looked two)
        (record {
          stop_is = looked_same;
          inside_is = so.0;
          irq_is = search (put_same, arith);
          calling_is = refl;
          inside_else = λ d ne. refl;
          irq_else = irq_other two;
          calling_else = λ d ne. refl;
          standing_else = λ d ne. put_other (p.now.stop slot).standing me (Inside a (At (Slot slot field.State))) d ne;
          gate_is = refl;
          work_is = refl;
          patching_is = refl;
        }) phase reads

    -- interrupts go off
    looks_off : (new : Past) → At (Slot slot field.State) ≡ DISABLE_IRQ → a ≡ PREPARE → new.answer ≡ Old.answer → (At (Slot slot field.State) ≢ 0
        → new.phase ≡ At (Slot slot field.State))
        → ReachesStops (Looked true) At (slice_set pasts me new) s ((me, event.Stop stops.Off) ∷ [])
    looks_off new two one answer phase = off_step known At (λ j. refl) (λ j. refl)
        slot a (At (Slot slot field.State)) so.0 so.1 new answer (Looked true)
        (record {
          stop_is = looked_same;
          inside_is = so.0;
          irq_is = put_same p.now.irq me false;
          calling_is = refl;
          inside_else = λ d ne. refl;
          irq_else = irq_other true;
          calling_else = λ d ne. refl;
          standing_else = λ d ne. put_other (p.now.stop slot).standing me (Inside a (At (Slot slot field.State))) d ne;
          gate_is = refl;
          work_is = refl;
          patching_is = refl;
        }) phase (subst (λ (x : Work). x.kind ≢ One) (sym so.3) kind) (opened_here slot a a w Rests at_seat) (irq_here slot a a w Rests at_seat
        ∙ rw one refl) (omega arith)
        (sym (words_here slot a a w Rests at_seat).state ∙ two) quiet

    -- by what is found
    abbrev New : Past
    New = record Old { phase = phase_of (At (Slot slot field.State)) }

    phase_new : At (Slot slot field.State) ≢ 0 → phase_of (At (Slot slot field.State)) ≡ At (Slot slot field.State)
    phase_new ne = let b = found_small in omega (arith, b)

    abbrev Said : Bool → Visit → ℕ → Option Note
    Said same x answer = (cond same (stop_ends C note.Same) (looked_on me C x answer (At (Slot slot field.State)))).note

    old_phase : (At (Slot slot field.State) == a) ≡ true → At (Slot slot field.State) ≢ 0 → Old.phase ≡ At (Slot slot field.State)
    old_phase e ne = search (eqb-true, my, arith)

    next_is : (At (Slot slot field.State) == a) ≡ false → At (Slot slot field.State) ≡ a + 1
    next_is e = search (found_is, eqb-false, arith)

    off_at : (n : ℕ) → a ≡ n → n ≡ DISABLE_IRQ → p.now.irq me ≡ false
    off_at n e two = irq_here slot a a w Rests at_seat ∙ rw (e, two) refl

    look_by : (x : Visit) (answer : ℕ) (same two : Bool) → (At (Slot slot field.State) == a) ≡ same → (At (Slot slot field.State) == DISABLE_IRQ) ≡ two
        → ReachesStops (Looked two) At (slice_set pasts me (cond (is_new (Said same x answer)) New Old)) s
        (by me (cond (two && is_new (Said same x answer)) (told.One (event.Stop stops.Off)) told.Nothing))
    look_by x answer true true e two =
        let same = eqb-true (At (Slot slot field.State)) a e in
        looks_on true Old (λ z. off_at a refl (sym same ∙ (eqb-true (At (Slot slot field.State)) DISABLE_IRQ two))) refl (old_phase e) (my known).reads
    look_by x answer true false e two = looks_on false Old (λ z. absurd (false≢true z)) refl (old_phase e) (my known).reads
    look_by x answer false true e two =
        let second = eqb-true (At (Slot slot field.State)) DISABLE_IRQ two in
        looks_off New second (omega (arith, second, (next_is e))) refl phase_new
    look_by x answer false false e two =
        looks_on false New (λ z. absurd (false≢true z)) refl phase_new (λ three. off_at a refl (omega (arith, three, (next_is e), found_small)))

  pub looks : (x : Visit) (answer : ℕ) → C.stage ≡ Some (Advance x (round.Look answer)) → Made (Advance x (round.Look answer))
  looks x answer e =
      let k = sits x (round.Look answer) e in
      look_by x.slot x.acked k.2.0 k.2.2 (λ one. k.0 (k.2.1.kind ∙ one)) x answer (At (Slot x.slot field.State) == x.acked) (At
      (Slot x.slot field.State) == DISABLE_IRQ) refl refl

  -- the function of a Multi stop is loaded, and runs
  pub loads_func : (x : Visit) (answer : ℕ) → Made (Advance x (round.LoadFunc answer))
  loads_func x answer = loads known (Advance x (round.LoadFunc answer)) (λ k. refl) (λ k. refl)

  idle_here : (slot : ℕ) (w : Work) (x : Visit) → IsCalling me (In slot w DISABLE_IRQ RUN Rests) (p.calling me) → IsQuiet (Some x) (p.calling me)
      → p.calling me ≡ Idle
  idle_here slot w x h1 h2 = search arith

  -- the function runs
  abbrev Runs : StopState → ℕ → ℕ → ℕ → Type 0
  Runs q slot func arg = ReachesStops q At (slice_set pasts me Old) s ((me, event.Stop (stops.Run func arg)) ∷ [])

  runs_at : (slot : ℕ) (w : Work) (x : Visit) (answer func : ℕ) → shown.seat me ≡ In slot w DISABLE_IRQ RUN Rests → w.kind ≡ Multi → has w.active me ≡ true
      → func ≡ w.func
      → IsQuiet (Some x) (p.calling me)
      → Runs (calls_now p me (p.now.stop slot).work (At (Slot slot field.Arg)) answer) slot func (At (Slot slot field.Arg))
  runs_at slot w x answer func at_seat kind active is quiet_now =
      let so = st slot DISABLE_IRQ RUN w Rests at_seat in
      let idle = idle_here slot w x (calling_here slot DISABLE_IRQ RUN w Rests at_seat) quiet_now in
      let phase : (p.now.stop slot).phase ≡ RUN =
      at_three RUN DISABLE_IRQ (p.now.stop slot).phase refl refl (keeps_here slot DISABLE_IRQ RUN w Rests at_seat).2 in
      runs_told known At (λ j. refl) (λ j. refl) slot so.0 (opened_here slot DISABLE_IRQ RUN w Rests at_seat)
      (calls_now p me (p.now.stop slot).work (At (Slot slot field.Arg)) answer) DISABLE_IRQ RUN func (At (Slot slot field.Arg))
      (Calls (record { func = (p.now.stop slot).work.func; arg = At (Slot slot field.Arg); answer = answer })) so.1 idle refl
      (record {
        stop_is = λ j. sym (put_all (λ i (z : Stop). z ≡ p.now.stop i) p.now.stop slot (p.now.stop slot) refl (λ i ne. refl) j);
        inside_is = so.0;
        irq_is = refl;
        calling_is = put_same p.calling me _;
        inside_else = λ d ne. refl;
        irq_else = λ d ne. refl;
        calling_else = λ d ne. put_other p.calling me _ d ne;
        standing_else = λ d ne. refl;
        gate_is = refl;
        work_is = refl;
        patching_is = refl;
      })
      (inr (ap (λ (z : Work). z.kind) so.3 ∙ kind, (ap (λ (z : Work). has z.active me) so.3 ∙ active, (refl, phase))))
      (ap (λ (z : Work). z.func) so.3 ∙ sym is) (sym (words_here slot DISABLE_IRQ RUN w Rests at_seat).written.arg)
    where
      at_three : (l n phase : ℕ) → l ≡ RUN → n ≡ DISABLE_IRQ → ((l ≡ n) ⊎ ((l ≡ n + 1) × (phase ≡ l))) → phase ≡ RUN
      at_three l n phase three two (inl e) = absurd (omega arith)
      at_three l n phase three two (inr e) = e.1 ∙ three

  calls_function : (x : Visit) (answer func : ℕ) → C.stage ≡ Some (Advance x (round.LoadArg answer func)) → (w : Work) → SitsAtRun me x w (shown.seat me)
      → func ≡ w.func → w.kind ≡ Multi → Made (Advance x (round.LoadArg answer func))
  calls_function x answer func e w run func_is kind =
      let slot = x.slot in
      let active : has w.active me ≡ true = ap (λ (m : ℕ). has m me) (sym run.0.active) ∙ run.2 in
      let so = st slot DISABLE_IRQ RUN w Rests run.3 in
      let carries : IsQuiet C.visit (p.calling me) = subst (λ (o : Option StopStage). CarriesAt C.visit o (p.calling me)) e (shown.carries me below) in
      let visit : C.visit ≡ Some x = (subst (λ (o : Option StopStage). SitsAt U me C o (shown.seat me)) e (shown.sits me below).seat).0 in
      let quiet_now : IsQuiet (Some x) (p.calling me) = subst (λ (o : Option Visit). IsQuiet o (p.calling me)) visit carries in
      let may : may_call me (p.now.stop slot).work ((p.now.stop slot).standing me) ≡ true =
      ap (λ (z : Standing). may_call me (p.now.stop slot).work z) so.1 ∙ (ap (λ (z : Work). may_call me z (Inside DISABLE_IRQ RUN)) so.3
      ∙ may_at w kind active) in
      let multi : is_multi x.kind ≡ true = ap is_multi run.0.kind ∙ ap is_multi kind in
      said_by slot (tells U p (seen_so known (Advance x (round.LoadArg answer func))) answer)
      (is_multi x.kind) func
      (record { control = record C { stage = Some (Advance x (round.Acknowledge answer true)) }; note = None })
      (stop_goes C (Advance x (round.LoadKey func (change_of (At (Slot slot field.Arg)))))) multi
      (subst (λ (q : StopState). Runs q slot func (At (Slot slot field.Arg))) (sym (then_if (may_call me (p.now.stop slot).work
      ((p.now.stop slot).standing me))
      (calls_now p me (p.now.stop slot).work (At (Slot slot field.Arg)) answer) p may)) (runs_at slot w x answer func run.3 kind active func_is quiet_now))
    where
      may_at : (w : Work) → w.kind ≡ Multi → has w.active me ≡ true → may_call me w (Inside DISABLE_IRQ RUN) ≡ true
      may_at w kind active = rw (kind, active) refl

      said_by : (slot : ℕ) (q : StopState) (multi : Bool) (func : ℕ) (a b : StopOutcome) → multi ≡ true → Runs q slot func (At (Slot slot field.Arg))
          → ReachesStops q At (slice_set pasts me Old) s (by me (of_arg (cond multi (record a {
            note = Some (note.Run func (At
                (Slot slot field.Arg)));
          }) b).note))
      said_by slot q multi func a b e r = search (false≢true, arith)

  -- the argument of a patch is loaded, of which nothing is told
  loads_change : (x : Visit) (answer func : ℕ) (w : Work) → SitsAtRun me x w (shown.seat me) → w.kind ≡ Patch → Made (Advance x (round.LoadArg answer func))
  loads_change x answer func w run kind =
      let slot = x.slot in
      let so = st slot DISABLE_IRQ RUN w Rests run.3 in
      let may : may_call me (p.now.stop slot).work ((p.now.stop slot).standing me) ≡ false =
      ap (λ (z : Standing). may_call me (p.now.stop slot).work z) so.1 ∙ (ap (λ (z : Work). may_call me z (Inside DISABLE_IRQ RUN)) so.3 ∙ may_not w kind) in
      let multi : is_multi x.kind ≡ false = ap is_multi run.0.kind ∙ ap is_multi kind in
      said_by slot (tells U p (seen_so known (Advance x (round.LoadArg answer func))) answer)
      (is_multi x.kind) func
      (record { control = record C { stage = Some (Advance x (round.Acknowledge answer true)) }; note = None })
      (Advance x (round.LoadKey func (change_of (At (Slot slot field.Arg))))) multi
      (subst (λ (q : StopState). ReachesStops q At (slice_set pasts me Old) s []) (sym (else_if (may_call me (p.now.stop slot).work
      ((p.now.stop slot).standing me))
      (calls_now p me (p.now.stop slot).work (At (Slot slot field.Arg)) answer) p may))
      (loads known (Advance x (round.LoadArg answer func)) (λ k. refl) (λ k. refl)))
    where
      may_not : (w : Work) → w.kind ≡ Patch → may_call me w (Inside DISABLE_IRQ RUN) ≡ false
      may_not w kind = rw kind (and_right (has w.active me) false refl)

      said_by : (slot : ℕ) (q : StopState) (multi : Bool) (func : ℕ) (a : StopOutcome) (next : StopStage) → multi ≡ false
          → ReachesStops q At (slice_set pasts me Old) s []
          → ReachesStops q At (slice_set pasts me Old) s (by me (of_arg (cond multi (record a {
            note = Some (note.Run func (At
                (Slot slot field.Arg)));
          }) (stop_goes C next)).note))
      said_by slot q multi func a next e r = search (true≢false, arith)

  pub loads_arg : (x : Visit) (answer func : ℕ) → C.stage ≡ Some (Advance x (round.LoadArg answer func)) → Made (Advance x (round.LoadArg answer func))
  loads_arg x answer func e =
      let k = sits x (round.LoadArg answer func) e in
      by_kind k.1.0 (λ one. k.0 (k.1.1.0.kind ∙ one)) k.1.1 k.1.2 k.1.0.kind refl
    where
      by_kind : (w : Work) → w.kind ≢ One → SitsAtRun me x w (shown.seat me) → func ≡ w.func → (k : Kind) → w.kind ≡ k → Made
          (Advance x (round.LoadArg answer func))
      by_kind w ne run func_is One is = absurd (ne is)
      by_kind w ne run func_is Multi is = calls_function x answer func e w run func_is is
      by_kind w ne run func_is Patch is = loads_change x answer func w run is
