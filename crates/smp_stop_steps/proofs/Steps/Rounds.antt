-- The kinds of step of a round: a CPU looks at the phase, acknowledges it, refills the count, and stores the next phase.
use Rattle.std.proofs.Common.{◌≡◌, ◌≢◌, ℕ, ◌+◌, ◌-◌, ◌≤◌, Bool, true, false, not, nat_lt, lt-ltb, le-ltb, eqb-true, eq-eqb, ne_eqb, ◌==◌, ◌&&◌, ◌||◌, cond, sym}
use Rattle.std.proofs.Common.{subst, refl, ap, ◌∙◌, ◌⊎◌, arith, Some, None, List, [], ◌∷◌, ◌++◌, Option, IfSome}
use Rattle.std.proofs.lemmas.Bool.{cases_lt}
use Rattle.std.specs.List.{AllByRecursion}
use Rattle.smp_words.proofs.Puts.{at_test, put_all, put_same, put_other}
use Rattle.smp_words.specs.declared.field.Field.TheVariants.{Ack, State}
use Rattle.smp_stop_steps.specs.{HasCalled, IsCalling, AreClosing, put, put_word, mask_weight, weight, Agrees, Change, Patches, Patching, Reading, Whole, Act}
use Rattle.smp_stop_steps.specs.{labels_in, StandsSet, reading_of, state_left, patch_answer, OwnsKey, PresentShows, RunnerShows}
use Rattle.smp_stop_steps.specs.{Alters, Fills, In, Rests, StopRole}
use Rattle.smp_stop_steps.specs.{Sets, RoleStands, Duty, irq_of, duty_of, StopShows, AckShows, IsLevel, Keeps, OpenShows, IsPhaseOf, Source, Setup, StopCall}
use Rattle.smp_stop_steps.specs.{StopState, Calling, Inside, Nobody, Raises, Raising, Standing, acked, acknowledged, is_inside, raised, refilled, stands}
use Rattle.smp_stop_steps.specs.{first_readings, is_patch, leaves, told, unpatched, with_stop, called_more, carried, One, Patch, Kind as KindOf, Work, Key}
use Rattle.smp_stop_steps.specs.{Slot, Word, is_on, change_of, State.Present, State.Carries, Stop.Stop}
use Rattle.smp_stop_steps.proofs.Basics.Bools.{both_true, or_false, or_true}
use Rattle.smp_stop_steps.proofs.Steps.Callings.{calling_same, calling_looked, IsNotClosing, calling_turned, closing_kept, calling_acked, idle_patch}
use Rattle.smp_stop_steps.proofs.Steps.Callings.{carried_alone, calling_next, calling_ran}
use Rattle.smp_stop_steps.proofs.Steps.Kept.{MovesInside, StaysOpen, after, moves_early, moves_given, open_step, other_slots, owns_kept, put_twice}
use Rattle.smp_stop_steps.proofs.State.Acknowledged.{step_acknowledges, step_looks, step_raises, step_refills, sets_me}
use Rattle.smp_stop_steps.proofs.{State.Moves.IsNoPatch, State.Moves.SaveMe, State.Pasts.active_put, State.Owns.owns_at_leave, State.Patched.patch_ends}
use Rattle.smp_stop_steps.proofs.{State.Phases.is_open_inside, State.Phases.keeps_inside, State.Works.weight_of_mask}
use Rattle.smp_stop_steps.specs.Names.{DISABLE_IRQ, RUN, EXIT, OVER}

-- a look changes whether interrupts are on at phase 2 alone
pub look_irq : (l a n p : ℕ) → n ≡ p → IsLevel p a → ((l ≡ a) ⊎ ((l ≡ a + 1) × (p ≡ l))) → n ≢ DISABLE_IRQ → nat_lt l DISABLE_IRQ ≡ nat_lt n DISABLE_IRQ
look_irq l a n p e level near ne = search (cases_lt, lt-ltb, le-ltb, near, arith)

-- no CPU has acknowledged more than the phase
pub acked_most_phase : (cpus p c : ℕ) (x : Standing) → Keeps cpus p c x → acked x ≤ p
acked_most_phase cpus p c x k = search arith

module _ (u : Setup) (p : StopState) (at : Word → ℕ) (seat : ℕ → StopRole) (source : ℕ → Source) (h : StopShows u p at seat source) (s me : ℕ) where
  abbrev pub now : Present
  now = p.now

  module _ (job : Work) (a l : ℕ) (t : Duty) (is : seat me ≡ In s job a l t) where
    -- where the CPU stands
    here : RoleStands p.now me (In s job a l t)
    here = subst (RoleStands p.now me) is (h.present.stands me)

    keeps : Keeps u.cpus (p.now.stop s).phase me (Inside a l)
    keeps = keeps_inside u.cpus (p.now.stop s) (λ f. at (Slot s f)) (h.present.slots s) me (Inside a l) here.1

    is_open : (p.now.stop s).is_open ≡ true
    is_open = is_open_inside u.cpus (p.now.stop s) (λ f. at (Slot s f)) (h.present.slots s) me (Inside a l) here.1 refl

    shown : OpenShows u.cpus (p.now.stop s) (λ f. at (Slot s f))
    shown = (h.present.slots s).shows is_open

  -- load of the state, by a CPU that has not acknowledged the last phase
  pub state_loaded : (job : Work) (a l answer : ℕ) → seat me ≡ In s job a l Rests → a ≢ EXIT →
      let found = at (Slot s State) in
      StopShows u (told u p me Act.Load (Slot s State) (Some found) None answer) at (put seat me (In s job a found Rests)) source
  state_loaded job a l answer is more = let found = at (Slot s State) in
      let k = keeps job a l Rests is in
      let o = shown job a l Rests is in
      let to = Inside a found in
      let stop' = stands (p.now.stop s) me to in
      let irq' = cond (found == DISABLE_IRQ) (put p.now.irq me false) p.now.irq in
      let looks' = put p.looks me (p.looks me ++ found ∷ []) in
      let next = In s job a found Rests in
      let inside : MovesInside ((p.now.stop s).standing me) to = search arith in
      let shown' = open_step u p at seat source h s stop' p.now.inside irq' p.now.readings p.now.patching at (put seat me next) looks' p.calls p.calling
      record {
        was = is_open job a l Rests is;
        now = is_open job a l Rests is;
        work = refl;
        end = λ e. e;
        given = moves_given u.first s me (p.now.stop s) to inside;
        active = active_put (p.now.stop s) me to (λ _ _. refl);
      } refl (λ k. refl) (λ j ne f. refl) (owns_kept u.first p.now (λ k. at (Key k)) s stop' p.now.inside irq' p.now.readings p.now.patching
      record {
        was = is_open job a l Rests is;
        now = is_open job a l Rests is;
        work = refl;
        end = λ e. e;
        given = moves_given u.first s me (p.now.stop s) to inside;
        active = active_put (p.now.stop s) me to (λ _ _. refl);
      } (moves_early u.first s me (p.now.stop s) to inside stop' refl) h.owns) (step_looks u p.now at seat h.present s me irq' p.now.readings
      (save found) job a l is more (turned found refl (o.state ∙ refl) k (h.present.irq me ∙ ap irq_of is)) (λ on i. h.present.read me on (before found
      (sym (turned found refl (o.state ∙ refl) k (h.present.irq me ∙ ap irq_of is)) ∙ refl) i))) (calling_same seat p.calling h.callings me next
      (calling_looked me s job a l found (p.calling me) (λ two three. o.state ∙ near k.2 two three) (subst (λ x. IsCalling me x (p.calling me)) is
      (h.callings me)))) (closing_kept p.now seat me next h.closing (subst IsNotClosing (sym is) tt) s stop' (λ c ne. put_other (p.now.stop s).standing me
      to c ne) refl refl) in
      search ((here job a l Rests is).1, shown', arith)
    where
      near : (l ≡ a) ⊎ ((l ≡ a + 1) × ((p.now.stop s).phase ≡ l)) → a ≡ DISABLE_IRQ → l ≡ RUN → (p.now.stop s).phase ≡ RUN
      near k two three = search arith

      other_irq : (b : Bool) (c : ℕ) → c ≢ me → cond b (put p.now.irq me false) p.now.irq c ≡ p.now.irq c
      other_irq b c ne = search (put_other, arith)

      save : (found : ℕ) → SaveMe p.now me p.now.inside (cond (found == DISABLE_IRQ) (put p.now.irq me false) p.now.irq) p.now.readings
      save found = record { inside = λ c ne. refl; irq = λ c ne. other_irq (found == DISABLE_IRQ) c ne; readings = λ c ne. refl }

      turned : (found : ℕ) → found ≡ found → found ≡ (p.now.stop s).phase → Keeps u.cpus (p.now.stop s).phase me (Inside a l)
          → p.now.irq me ≡ nat_lt l DISABLE_IRQ || a == EXIT →
          cond (found == DISABLE_IRQ) (put p.now.irq me false) p.now.irq me ≡ nat_lt found DISABLE_IRQ || a == EXIT
      turned found h1 e k i = search (at_test, nat_lt, put_same, ne_eqb, look_irq, arith)

      before : (found : ℕ) → nat_lt found DISABLE_IRQ || a == EXIT ≡ cond (found == DISABLE_IRQ) (put p.now.irq me false) p.now.irq me
          → nat_lt found DISABLE_IRQ || a == EXIT ≡ true → p.now.irq me ≡ true
      before found e i = search (at_test, put_same, arith)

  -- who is not inside the function of a patch does not end one
  not_patching : (x : Patching) → IsNoPatch (seat me) → RunnerShows u.first x seat → unpatched me x ≡ x
  not_patching x idle r = search (ne_eqb, IsNoPatch, arith)

  -- with the key of its own patch a source's readings begin when it leaves
  leave_agrees : (job : Work) (a l : ℕ) (t : Duty) → seat me ≡ In s job a l t → EXIT ≤ (p.now.stop s).phase → AllByRecursion (Agrees (labels_in at))
      (first_readings me s job)
  leave_agrees job a l t is late = go (is_patch job.kind) refl (s == me) refl
    where
      kind_patch : (k : KindOf) → is_patch k ≡ true → k ≡ Patch
      kind_patch k e = search arith

      reads : (n : ℕ) → n ≡ at (Key job.func) → (x : Option Bool) → IfSome x (λ on. is_on n ≡ on) → AllByRecursion (Agrees (labels_in at))
          (reading_of job.func x)
      reads n same x k = search arith

      go : (b : Bool) → is_patch job.kind ≡ b → (c : Bool) → (s == me) ≡ c → AllByRecursion (Agrees (labels_in at))
          (cond (b && c) (reading_of job.func (state_left (change_of job.arg))) [])
      go false e c f = tt
      go true e false f = tt
      go true e true f = let st = here job a l t is in
          let same : s ≡ me = eqb-true s me f in
          let in_ : is_inside ((p.now.stop s).standing s) ≡ true = subst (λ k. is_inside ((p.now.stop s).standing k) ≡ true) (sym same) (ap is_inside st.1) in
          let kind : (p.now.stop s).work.kind ≡ Patch = ap (λ (w : Work). w.kind) st.3 ∙ kind_patch job.kind e in
          let k = owns_at_leave u p.now at seat h.present s (is_open job a l t is) kind in_ late h.setup.first (h.owns s) in
          reads (at (Key job.func)) refl (state_left (change_of job.arg)) (subst (λ (w : Work). StandsSet w (at (Key w.func))) st.3 k)

  module _ (job : Work) (a answer : ℕ) where
    abbrev pub found : ℕ
    found = at (Slot s Ack)

    abbrev pub next : StopRole
    next = In s job (a + 1) (a + 1) (cond (found == 1) Fills Rests)

    abbrev pub acked_stop : Stop
    acked_stop = acknowledged (p.now.stop s) me (a + 1) found

    -- what is now, once the phase is acknowledged
    abbrev pub acked_now : Patching → Present
    acked_now x = record (p.now) { stop = put p.now.stop s acked_stop; patching = x }

    -- the keys that sources know
    owns_acked : (x : Patching) (irq' : ℕ → Bool) (readings' : ℕ → List Reading) → (p.now.stop s).standing me ≡ Inside a (a + 1) →
        ((p.now.stop s).work.kind ≡ Patch → me ≡ u.first → a ≡ DISABLE_IRQ → StandsSet (p.now.stop s).work (at (Key (p.now.stop s).work.func))) →
        (j : ℕ) → OwnsKey u.first (after p.now s acked_stop p.now.inside irq' readings' x) (λ k. at (Key k)) j
    owns_acked x irq' readings' st known j =
        at_test j s (λ b. let y = cond b acked_stop (p.now.stop j) in y.is_open ≡ true → y.work.kind ≡ Patch → is_inside (y.standing j) ≡ true →
        RUN ≤ acked (y.standing u.first) → StandsSet y.work (at (Key y.work.func)))
        (λ e op kind in_ late.
        let i = put_all (λ c y. is_inside y ≡ true → is_inside ((p.now.stop s).standing c) ≡ true) (p.now.stop s).standing me (Inside (a + 1) (a + 1))
        (λ _. ap is_inside st) (λ c ne i. i) s (subst (λ k. is_inside (acked_stop.standing k) ≡ true) e in_) in
        at_test u.first me (λ b. RUN ≤ acked (cond b (Inside (a + 1) (a + 1)) ((p.now.stop s).standing u.first)) → StandsSet (p.now.stop s).work
        (at (Key (p.now.stop s).work.func)))
        (search arith)
        (λ ne late. h.owns s op kind i late) late)
        (λ ne op kind in_ late. h.owns j op kind in_ late)

    leaves_irq : (b : Bool) → irq_of (In s job (a + 1) (a + 1) (cond b Fills Rests)) ≡ cond (a + 1 == EXIT && not b) true (nat_lt (a + 1) DISABLE_IRQ)
    leaves_irq b = search (at_test, nat_lt, or_true, or_false, arith)

    -- an acknowledgement, over a state in which nobody or another patches
    ack_shown : (x : Patching) (seat0 : ℕ → StopRole) (calls' : ℕ → List StopCall) (calling' : ℕ → Calling) → PresentShows u (record (p.now) { patching = x })
        at seat0 → seat0 me ≡ In s job a (a + 1) Rests →
        p.now.irq me ≡ nat_lt (a + 1) DISABLE_IRQ → put seat0 me next ≡ put seat me next → (p.now.stop s).standing me ≡ Inside a (a + 1)
        → (p.now.stop s).is_open ≡ true →
        ((p.now.stop s).work.kind ≡ Patch → me ≡ u.first → a ≡ DISABLE_IRQ → StandsSet (p.now.stop s).work (at (Key (p.now.stop s).work.func))) →
        (a + 1 ≡ EXIT → AllByRecursion (Agrees (labels_in at)) (first_readings me s (p.now.stop s).work)) →
        ((c : ℕ) → IsCalling c (put seat me next c) (calling' c)) → IsNotClosing (seat me) →
        (b : Bool) → (a + 1 == EXIT && not (found == 1)) ≡ b →
        StopShows u (record p { now = cond b (leaves (acked_now x) me s (p.now.stop s).work) (acked_now x); calls = calls'; calling = calling' })
        (put_word at (Slot s Ack) (found - 1)) (put seat me next) source
    ack_shown x seat0 calls' calling' present is off same st op known agrees callings idle true e = let irq' = put p.now.irq me true in
        let readings' = put p.now.readings me (first_readings me s (p.now.stop s).work) in
        let at' = put_word at (Slot s Ack) (found - 1) in
        let shown' = open_step u p at seat source h s acked_stop p.now.inside irq' readings' x at' (put seat0 me next) p.looks calls' calling' (search
        (put_all, active_put, arith)) refl (λ k. refl) (other_slots at s Ack (found - 1)) (owns_acked x irq' readings' st known)
        (step_acknowledges u (record (p.now) { patching = x }) at seat0 present s me irq' readings' record {
          inside = λ c ne. refl;
          irq = λ c ne. put_other p.now.irq me true c ne;
          readings = search (put_other, arith);
        } job a is (put_same p.now.irq me true ∙ sym (leaves_irq (found == 1) ∙ ap
        (λ b. cond b true (nat_lt (a + 1) DISABLE_IRQ)) e)) (λ _ _. subst (AllByRecursion (Agrees (labels_in at)))
        (sym (put_same p.now.readings me (first_readings me s (p.now.stop s).work)))
        (agrees (eqb-true (a + 1) EXIT (both_true (a + 1 == EXIT) (not (found == 1)) e).0))))
        (subst (λ (y : ℕ → StopRole). (c : ℕ) →
        IsCalling c (y c) (calling' c)) (sym same) callings) (subst (AreClosing (record (acked_now x) { irq = irq'; readings = readings' })) (sym same)
        (closing_kept p.now seat me next h.closing idle s acked_stop (λ c ne. put_other (p.now.stop s).standing me (Inside (a + 1) (a + 1)) c ne) refl refl)) in
        search (← same, shown', arith)
    ack_shown x seat0 calls' calling' present is off same st op known agrees callings idle false e = let at' = put_word at (Slot s Ack) (found - 1) in
        let to = Inside (a + 1) (a + 1) in
        let turned : p.now.irq me ≡ irq_of next = off ∙ sym (leaves_irq (found == 1) ∙ ap (λ b. cond b true (nat_lt (a + 1) DISABLE_IRQ)) e) in
        let shown' = open_step u p at seat source h s acked_stop p.now.inside p.now.irq p.now.readings x at' (put seat0 me next) p.looks calls' calling'
        record {
          was = op;
          now = op;
          work = refl;
          end = λ e. e;
          given = search (put_all, arith);
          active = active_put (p.now.stop s) me to (λ _ _. refl);
        } refl (λ k. refl) (other_slots at s Ack (found - 1)) (owns_acked x p.now.irq
        p.now.readings st known) (step_acknowledges u (record (p.now) { patching = x }) at seat0 present s me p.now.irq p.now.readings record {
          inside = λ c ne. refl;
          irq = λ c ne. refl;
          readings = λ c ne. refl;
        } job a is turned (λ on i. h.present.read me on (turned ∙ i))) (subst (λ (y : ℕ → StopRole).
        (c : ℕ) → IsCalling c (y c) (calling' c)) (sym same) callings) (subst (AreClosing (acked_now x)) (sym same) (closing_kept p.now seat me next
        h.closing idle s acked_stop (λ c ne. put_other (p.now.stop s).standing me to c ne) refl refl)) in
        search (← same, shown', arith)

    abbrev pub calls_then : ℕ → List StopCall
    calls_then = cond (a + 1 == RUN) (called_more p.calls me (p.calling me)) p.calls

    abbrev pub calling_then : Patching → ℕ → Calling
    calling_then x = cond (a + 1 == RUN) (put p.calling me (carried me x (p.calling me))) p.calling

    -- the function of a CPU that patches nothing, once the phase is acknowledged
    acked_calling : (b : Bool) → (a + 1 == RUN) ≡ b → seat me ≡ In s job a (a + 1) Rests → job.kind ≢ One
        → (a ≡ DISABLE_IRQ → HasCalled me job (p.calling me)) →
        (c : ℕ) → IsCalling c (put seat me next c) (cond b (put p.calling me (carried me p.now.patching (p.calling me))) p.calling c)
    acked_calling b e is many ready = search (calling_same, calling_acked, eq-eqb, eqb-true, carried_alone, IsNoPatch, calling_ran, calling_next, arith)

    -- fetch_sub of the count, by a CPU that has looked at a new phase and runs no patch
    pub ack_subtracted : seat me ≡ In s job a (a + 1) Rests → (a ≡ DISABLE_IRQ → HasCalled me job (p.calling me)) →
        StopShows u (told u p me Act.Sub (Slot s Ack) (Some found) (Some (found - 1)) answer) (put_word at (Slot s Ack) (found - 1)) (put seat me next) source
    ack_subtracted is ready = let st = here job a (a + 1) Rests is in
        let phase : (p.now.stop s).phase ≡ a + 1 = search arith in
        let many : job.kind ≢ One = search (several, shown, arith) in
        let off : p.now.irq me ≡ nat_lt (a + 1) DISABLE_IRQ = search (h.present.irq, or_false, nat_lt, ne_eqb, arith) in
        let shown' = ack_shown p.now.patching seat calls_then (calling_then p.now.patching) h.present is off refl st.1 (is_open job a (a + 1) Rests is) (λ
        kind mine two. absurd (active kind mine two st.3)) (λ four. subst (λ (w : Work). AllByRecursion (Agrees (labels_in at)) (first_readings me s w))
        (sym st.3) (leave_agrees job a (a + 1) Rests is (omega arith))) (acked_calling (a + 1 == RUN) refl is many ready) (subst IsNotClosing (sym is) tt)
        (a + 1 == EXIT && not (found == 1)) refl in
        search (st.1, still (a + 1 == RUN) (subst IsNoPatch (sym is) tt), shown', arith)
      where
        several : (k : KindOf) → k ≡ One → IsPhaseOf k (p.now.stop s).phase → (p.now.stop s).phase ≡ a + 1 → ⊥
        several k e z phase = search arith

        still : (b : Bool) → IsNoPatch (seat me) → cond b (unpatched me p.now.patching) p.now.patching ≡ p.now.patching
        still b idle = search (not_patching, arith)

        active : (p.now.stop s).work.kind ≡ Patch → me ≡ u.first → a ≡ DISABLE_IRQ → (p.now.stop s).work ≡ job → ⊥
        active kind mine two same = search (h.present.works, is_open, eq-eqb, h.callings, idle_patch, arith)

  -- the same at phase 3, by the CPU that has made all stores of its patch
  pub ack_subtracted_patched : (job : Work) (count : ℕ) (made : List Change) (answer : ℕ) → seat me ≡ Alters s job count made [] →
      let found = at (Slot s Ack) in
      StopShows u (told u p me Act.Sub (Slot s Ack) (Some found) (Some (found - 1)) answer) (put_word at (Slot s Ack) (found - 1))
      (put seat me (In s job RUN RUN (cond (found == 1) Fills Rests))) source
  ack_subtracted_patched job count made answer is = let st : RoleStands p.now me (Alters s job count made []) = subst (RoleStands p.now me) is
      (h.present.stands me) in
      let ends = patch_ends u p.now at seat h.present s me job count made is in
      let seat0 = put seat me (In s job DISABLE_IRQ RUN Rests) in
      let next = In s job RUN RUN (cond ((at (Slot s Ack)) == 1) Fills Rests) in
      let open_ = is_open_inside u.cpus (p.now.stop s) (λ f. at (Slot s f)) (h.present.slots s) me (Inside DISABLE_IRQ RUN) st.1 refl in
      let runner : RunnerShows u.first (Patches me job count made []) seat = subst (λ x. RunnerShows u.first x seat) st.5 h.present.runner in
      let works = h.present.works s open_ (ap (λ (w : Work). w.kind) st.3 ∙ st.4) in
      let shown' = ack_shown job 2 answer Whole seat0 (calls_then job 2 answer) (put p.calling me (Carries (patch_answer job count))) ends.0 (search
      (put_same, arith)) (h.present.irq me ∙ ap irq_of is) (put_twice seat me (In s job DISABLE_IRQ RUN Rests) next) st.1 open_ (search arith)
      (λ four. absurd (let z : ⊥ = omega (arith, four) in z)) (search (calling_next, h.callings, arith)) (subst IsNotClosing (sym is) tt) false refl in
      search (st.1, st.5, eq-eqb me me refl, shown', arith)

  -- store of the count by the one that emptied it: the weight of the mask
  pub ack_stored : (job : Work) (a l answer : ℕ) → seat me ≡ In s job a l Fills →
      let v = mask_weight u.cpus job.mask in
      StopShows u (told u p me Act.Store (Slot s Ack) None (Some v) answer) (put_word at (Slot s Ack) v) (put seat me (In s job a l Sets)) source
  ack_stored job a l answer is = let st = here job a l Fills is in
      let open_ = is_open job a l Fills is in
      let o = shown job a l Fills is in
      let v = mask_weight u.cpus job.mask in
      let stop' = refilled (p.now.stop s) me in
      let next = In s job a l Sets in
      let whole : weight u.cpus (p.now.stop s).standing ≡ v = search (weight_of_mask, h.present.slots, arith) in
      let stays : StaysOpen (p.now.stop s) stop' = record { was = open_; now = open_; work = refl; end = λ e. e; given = λ c. refl; active = λ a. a } in
      let shown' = open_step u p at seat source h s stop' p.now.inside p.now.irq p.now.readings p.now.patching (put_word at (Slot s Ack) v) (put seat me next)
      p.looks p.calls p.calling stays refl (λ k. refl) (other_slots at s Ack v) (owns_kept u.first p.now (λ k. at (Key k)) s stop' p.now.inside p.now.irq
      p.now.readings p.now.patching stays record { inside = λ i. i; late = λ i. i } h.owns) (subst (λ n. PresentShows u (after p.now s stop' p.now.inside
      p.now.irq p.now.readings p.now.patching) (put_word at (Slot s Ack) n) (put seat me next)) whole (step_refills u p.now at seat h.present s me
      p.now.irq p.now.readings record { inside = λ c ne. refl; irq = λ c ne. refl; readings = λ c ne. refl } job a l is (λ z. one (p.now.stop s).raising
      st.2 (o.calm z)) (h.present.irq me ∙ ap irq_of is) (λ on i. h.present.read me on (h.present.irq me ∙ (ap irq_of is ∙ i))))) (calling_same seat
      p.calling h.callings me next (calling_turned me s job a l Fills Sets (p.calling me) (λ e. cc) (subst (λ x. IsCalling me x (p.calling me)) is
      (h.callings me)))) (closing_kept p.now seat me next h.closing (subst IsNotClosing (sym is) tt) s stop' (λ c ne. refl) refl refl) in
      search (open_, shown', arith)
    where
      one : (r : Raising) → duty_of r me ≡ Fills → r ≡ Nobody → ⊥
      one r e z = search arith

  -- store of the next phase by the one that refilled the count; from 4 to 5 it leaves
  pub state_stored : (job : Work) (a l answer : ℕ) → seat me ≡ In s job a l Sets →
      StopShows u (told u p me Act.Store (Slot s State) None (Some (a + 1)) answer) (put_word at (Slot s State) (a + 1)) (put seat me (In s job a l Rests))
      source
  state_stored job a l answer is = let st = here job a l Sets is in
      let open_ = is_open job a l Sets is in
      let o = shown job a l Sets is in
      let stop' = raised (p.now.stop s) (a + 1) in
      let busy : (p.now.stop s).phase ≢ 0 = λ z. one (p.now.stop s).raising st.2 (o.calm z) in
      let ack : AckShows u.cpus (p.now.stop s).phase (p.now.stop s).standing (Raises me) (at (Slot s Ack)) =
      subst (λ r. AckShows u.cpus (p.now.stop s).phase (p.now.stop s).standing r (at (Slot s Ack))) (sets_me me (p.now.stop s).raising st.2) (o.ack busy) in
      let stays : StaysOpen (p.now.stop s) stop' = record { was = open_; now = open_; work = refl; end = λ e. e; given = λ c. refl; active = λ a. a } in
      let own = λ (irq' : ℕ → Bool) (readings' : ℕ → List Reading).
      owns_kept u.first p.now (λ k. at (Key k)) s stop' p.now.inside irq' readings' p.now.patching stays record { inside = λ i. i; late = λ i. i } h.owns in
      search (go, arith)
    where
      one : (r : Raising) → duty_of r me ≡ Sets → r ≡ Nobody → ⊥
      one r e z = search arith

      callings : (c : ℕ) → IsCalling c (put seat me (In s job a l Rests) c) (p.calling c)
      callings = search (calling_same, h.callings, calling_turned, arith)

      closing : AreClosing (record (p.now) { stop = put p.now.stop s (raised (p.now.stop s) (a + 1)) }) (put seat me (In s job a l Rests))
      closing = closing_kept p.now seat me (In s job a l Rests) h.closing (subst IsNotClosing (sym is) tt) s (raised (p.now.stop s) (a + 1)) (λ c ne. refl)
          refl refl

      go : (b : Bool) → (a + 1 == OVER) ≡ b → RoleStands p.now me (In s job a l Sets) → (p.now.stop s).phase ≡ a → (p.now.stop s).phase ≡ l →
          (p.now.stop s).phase ≢ 0 → StaysOpen (p.now.stop s) (raised (p.now.stop s) (a + 1)) →
          ((irq' : ℕ → Bool) (readings' : ℕ → List Reading) (j : ℕ) → OwnsKey u.first (after p.now s (raised (p.now.stop s) (a + 1)) p.now.inside irq'
          readings' p.now.patching) (λ k. at (Key k)) j) →
          StopShows u (record p {
            now = cond b (leaves (with_stop p.now s (raised (p.now.stop s) (a + 1))) me s (p.now.stop s).work)
                (with_stop p.now s (raised (p.now.stop s) (a + 1)));
          }) (put_word at (Slot s State) (a + 1)) (put seat me (In s job a l Rests)) source
      go true e st phase looked busy stays own = let irq' = put p.now.irq me true in
          let first = first_readings me s (p.now.stop s).work in
          let readings' = put p.now.readings me first in
          let five : a ≡ EXIT = let x = eqb-true (a + 1) OVER e in omega arith in
          open_step u p at seat source h s (raised (p.now.stop s) (a + 1)) p.now.inside irq' readings' p.now.patching (put_word at (Slot s State) (a + 1))
          (put seat me (In s job a l Rests)) p.looks p.calls p.calling stays refl (λ k. refl) (other_slots at s State (a + 1)) (own irq' readings')
          (subst (λ n. PresentShows u (after p.now s (raised (p.now.stop s) (n + 1)) p.now.inside irq' readings' p.now.patching) (put_word at (Slot s State)
          (n + 1)) (put seat me (In s job a l Rests))) phase
          (step_raises u p.now at seat h.present s me irq' readings'
          record { inside = λ c ne. refl; irq = λ c ne. put_other p.now.irq me true c ne; readings = λ c ne. put_other p.now.readings me first c ne }
          job a l is busy
          (put_same p.now.irq me true ∙ sym (ap (λ n. nat_lt l DISABLE_IRQ || n == EXIT) five ∙ or_true (nat_lt l DISABLE_IRQ)))
          (λ _ _. subst (AllByRecursion (Agrees (labels_in at))) (sym (put_same p.now.readings me first))
          (subst (λ (w : Work). AllByRecursion (Agrees (labels_in at)) (first_readings me s w)) (sym st.3) (leave_agrees job a l Sets is (omega arith))))))
          callings closing
      go false e st phase looked busy stays own =
          let not_five : a == EXIT ≡ false = ne_eqb a EXIT (λ x. let y : true ≡ false = sym (eq-eqb (a + 1) OVER (omega arith)) ∙ e in cc) in
          let off : p.now.irq me ≡ nat_lt l DISABLE_IRQ || a == EXIT = h.present.irq me
          ∙ (ap irq_of is ∙ sym (or_false (nat_lt l DISABLE_IRQ) (a == EXIT) not_five)) in
          open_step u p at seat source h s (raised (p.now.stop s) (a + 1)) p.now.inside p.now.irq p.now.readings p.now.patching (put_word at (Slot s State)
          (a + 1)) (put seat me (In s job a l Rests)) p.looks p.calls p.calling stays refl (λ k. refl) (other_slots at s State (a + 1))
          (own p.now.irq p.now.readings)
          (subst (λ n. PresentShows u (after p.now s (raised (p.now.stop s) (n + 1)) p.now.inside p.now.irq p.now.readings p.now.patching)
          (put_word at (Slot s State) (n + 1)) (put seat me (In s job a l Rests))) phase
          (step_raises u p.now at seat h.present s me p.now.irq p.now.readings record { inside = λ c ne. refl; irq = λ c ne. refl; readings = λ c ne. refl }
          job a l is busy off (λ on i. h.present.read me on (off ∙ i)))) callings closing
