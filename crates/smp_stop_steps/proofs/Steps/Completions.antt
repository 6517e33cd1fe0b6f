-- The kinds of step at the ends of a stop for one CPU: it enters, stores its answer, counts itself, and stores done.
use Rattle.std.proofs.Common.{◌≡◌, ◌≢◌, ℕ, ◌-◌, ◌≤◌, Bool, true, false, nat_lt, eq-eqb, ◌==◌, cond, sym, subst, refl, ap, ◌∙◌, ◌⊎◌, inl, inr, arith, ⊎_elim}
use Rattle.std.proofs.Common.{Option, Some, None, List, [], ◌∷◌, ◌++◌}
use Rattle.smp_words.proofs.Puts.{at_test, put_all, put_same, put_other}
use Rattle.smp_words.specs.declared.field.Field.TheVariants.{Done, Result, Roll, Todo}
use Rattle.smp_stop_steps.specs.{IsCalling, AreClosing, HasCompleted, StandsSet, put, put_word, one, unfinished, IsAnswer, HasPast, answer_now, OwnsKey, Closes}
use Rattle.smp_stop_steps.specs.{Free, Gives, In, Rests, StopRole, RoleStands, irq_of, duty_of, StopShows, DoneShows, IsDone}
use Rattle.smp_stop_steps.specs.{IsLevel, IsPhaseOf, Source, Setup, Act}
use Rattle.smp_stop_steps.specs.{StopState, Idle, Answering, Called, Completed, Ended, Inside, Standing, acked, completed, ended, is_inside, is_of, stands}
use Rattle.smp_stop_steps.specs.{Last, completes_with, enters, told, called_more, Field, One, Patch, Kind as KindOf, Work, Key, Slot, Word, has, Stop.Stop}
use Rattle.smp_stop_steps.proofs.Steps.Callings.{calling_same, IsNotClosing, idle_free, closing_kept, idle_closes, closing_seat, calling_next, given_quiet}
use Rattle.smp_stop_steps.proofs.State.Entered.{step_answers, step_completes, step_enters, step_finishes}
use Rattle.smp_stop_steps.proofs.Steps.Kept.{MovesInside, StaysOpen, after, moves_early, moves_given, open_step, open_step_with, other_slots, owns_kept}
use Rattle.smp_stop_steps.proofs.Steps.Kept.{past_answers}
use Rattle.smp_stop_steps.proofs.{Basics.Bools.or_true, Basics.Counts.sum_zero, State.Ends.answer_of_it, State.Ends.answer_unfinished, State.Moves.IsNoPatch}
use Rattle.smp_stop_steps.proofs.{State.Pasts.active_put, State.Pasts.past_completes, State.Phases.is_open_inside, State.Phases.keeps_inside}
use Rattle.smp_stop_steps.proofs.{State.Raises.in_machine, Steps.Rounds.acked_most_phase, State.Works.called_is, State.Acknowledged.rests_me}
use Rattle.smp_stop_steps.specs.Names.{RUN, EXIT}

pub one_phase : (k : KindOf) (p : ℕ) → k ≡ One → IsPhaseOf k p → p ≡ 0
one_phase k p e h = search arith

module _ (u : Setup) (p : StopState) (at : Word → ℕ) (seat : ℕ → StopRole) (source : ℕ → Source) (h : StopShows u p at seat source) (s me : ℕ) where
  abbrev w : Field → ℕ
  w f = at (Slot s f)

  -- fetch_and of the roll, that found the own bit
  pub roll_cleared : (n answer : ℕ) → seat me ≡ Free → has (at (Slot s Roll)) me ≡ true → has n me ≡ false →
      ((c : ℕ) → c ≢ me → has n c ≡ has (at (Slot s Roll)) c) →
      StopShows u (told u p me Act.And (Slot s Roll) (Some (at (Slot s Roll))) (Some n) answer) (put_word at (Slot s Roll) n)
      (put seat me (In s (p.now.stop s).work 0 0 Rests)) source
  roll_cleared n answer is found clears others = let to = Inside 0 0 in
      let stop' = stands (p.now.stop s) me to in
      let inside' = put p.now.inside me (Some s) in
      let called : (p.now.stop s).standing me ≡ Called = called_is ((p.now.stop s).standing me) (sym ((h.present.slots s).roll me) ∙ found) in
      let k = keeps_inside u.cpus (p.now.stop s) w (h.present.slots s) me Called called in
      let stays : StaysOpen (p.now.stop s) stop' = search (put_all, active_put, arith) in
      let at' = put_word at (Slot s Roll) n in
      let shown' = open_step u p at seat source h s stop' inside' p.now.irq p.now.readings p.now.patching at' (put seat me (In s (p.now.stop s).work 0 0
      Rests)) p.looks p.calls p.calling stays refl (λ k. refl) (other_slots at s Roll n) (own k.1) (step_enters u p.now at seat h.present s me n is found
      clears others) (calling_same seat p.calling h.callings me (In s (p.now.stop s).work 0 0 Rests) (subst (IsCalling me (In s (p.now.stop s).work 0 0
      Rests)) (sym (idle_free me (p.calling me) (subst (λ x. IsCalling me x (p.calling me)) is (h.callings me)))) (λ l. absurd (let z : ⊥ = omega (
        arith,
        l,
      ) in z)))) (closing_kept p.now seat me (In s (p.now.stop s).work 0 0 Rests) h.closing (subst IsNotClosing (sym is) tt) s stop' (λ c ne. put_other
      (p.now.stop s).standing me to c ne) refl refl) in
      search (found, shown', arith)
    where
      low : IsLevel (p.now.stop s).phase 0 → (c : ℕ) → acked ((p.now.stop s).standing c) ≤ 1
      low level c = search (acked_most_phase, h.present.slots, arith)

      early : IsLevel (p.now.stop s).phase 0 → (c : ℕ) → acked (put (p.now.stop s).standing me (Inside 0 0) c) ≤ 1
      early level = put_all (λ c y. acked y ≤ 1) (p.now.stop s).standing me (Inside 0 0) (omega arith) (λ c ne. low level c)

      own : IsLevel (p.now.stop s).phase 0 → (j : ℕ) → OwnsKey u.first (after p.now s (stands (p.now.stop s) me (Inside 0 0)) (put p.now.inside me (Some s))
          p.now.irq p.now.readings p.now.patching) (λ k. at (Key k)) j
      own level j = search (at_test, early, h.owns, arith)

  -- fetch_and of the roll, that did not find it: E7
  pub roll_stale : (new : Option ℕ) (answer : ℕ) → has (at (Slot s Roll)) me ≡ false →
      StopShows u (told u p me Act.And (Slot s Roll) (Some (at (Slot s Roll))) new answer) at seat source
  roll_stale new answer missing = subst (λ b. StopShows u (cond b (record p { now = enters p.now me s }) p) at seat source) (sym missing) h

  module _ (job : Work) (a l : ℕ) (is : seat me ≡ In s job a l Rests) (through : (a ≡ EXIT) ⊎ (job.kind ≡ One)) where
    st : RoleStands p.now me (In s job a l Rests)
    st = subst (RoleStands p.now me) is (h.present.stands me)

    open_ : (p.now.stop s).is_open ≡ true
    open_ = is_open_inside u.cpus (p.now.stop s) w (h.present.slots s) me (Inside a l) st.1 refl

    phase_one : job.kind ≡ One → (p.now.stop s).phase ≡ 0
    phase_one one = one_phase (p.now.stop s).work.kind (p.now.stop s).phase (ap (λ (w : Work). w.kind) st.3 ∙ one) ((h.present.slots s).shows open_).kinds

    is_done : IsDone (p.now.stop s).phase a
    is_done = ⊎_elim (λ (e : a ≡ EXIT). inl e) (λ (e : job.kind ≡ One). inr (phase_one e)) through

    pub on_now : irq_of (seat me) ≡ true
    on_now = search (nat_lt, eq-eqb, or_true, phase_one, keeps_inside, h.present.slots, arith)

    -- store of an answer that is not 0
    pub result_stored : (v answer : ℕ) → v ≢ 0 → IsCalling me (Gives s job a v) (p.calling me) →
        StopShows u (told u p me Act.Store (Slot s Result) None (Some v) answer) (put_word at (Slot s Result) v) (put seat me (Gives s job a v)) source
    result_stored v answer some calls = let to = Answering a v in
        let stop' = stands (p.now.stop s) me to in
        let at' = put_word at (Slot s Result) v in
        let inside : MovesInside ((p.now.stop s).standing me) to = search arith in
        let active = active_put (p.now.stop s) me to (subst (λ (x : Work). x.kind ≢ One → has x.active me ≡ false → v ≡ 0) (sym st.3)
        (given_quiet me s job a v (p.calling me) calls)) in
        let stays : StaysOpen (p.now.stop s) stop' = search (open_, moves_given, active, arith) in
        let shown' = open_step u p at seat source h s stop' p.now.inside p.now.irq p.now.readings p.now.patching at' (put seat me (Gives s job a v)) p.looks
        p.calls p.calling stays refl (λ k. refl) (other_slots at s Result v) (owns_kept u.first p.now (λ k. at (Key k)) s stop' p.now.inside p.now.irq
        p.now.readings p.now.patching stays (moves_early u.first s me (p.now.stop s) to inside stop' refl) h.owns) (step_answers u p.now at seat h.present
        s me job a l v is some is_done (rests_me me (p.now.stop s).raising st.2) on_now) (calling_same seat p.calling h.callings me (Gives s job a v)
        calls) (closing_kept p.now seat me (Gives s job a v) h.closing (subst IsNotClosing (sym is) tt) s stop' (λ c ne. put_other (p.now.stop s).standing
        me to c ne) refl refl) in
        search (open_, st.1, shown', arith)

  -- fetch_sub of todo, of whoever is ready to be counted
  completes_shown : (job : Work) (a v : ℕ) → p.now.inside me ≡ Some s → IsAnswer ((p.now.stop s).standing me) a v → duty_of (p.now.stop s).raising me ≡
      Rests → IsDone (p.now.stop s).phase a →
      irq_of (seat me) ≡ true → IsNoPatch (seat me) → IsNotClosing (seat me) → answer_now ((p.now.stop s).standing me) ≡ [] →
      ((p.now.stop s).work.kind ≢ One → has (p.now.stop s).work.active me ≡ false → v ≡ 0) →
      let found = at (Slot s Todo) in
      StopShows u (completes_with p me s a v found) (put_word at (Slot s Todo) (found - 1)) (put seat me (cond (found == 1) (Closes s) Free)) source
  completes_shown job a v in_ is turn done on idle calm none mine = let found = at (Slot s Todo) in
      let to = Completed a v in
      let stop' = completed (p.now.stop s) me a v found in
      let of = answer_of_it (p.now.stop s).phase a v ((p.now.stop s).standing me) is in
      let open_ = is_open_inside u.cpus (p.now.stop s) w (h.present.slots s) me ((p.now.stop s).standing me) refl of in
      let answers' = put p.answers me (put (p.answers me) s (p.answers me s ++ v ∷ [])) in
      open_step_with u p at seat source h s stop' (put p.now.inside me None) p.now.irq p.now.readings p.now.patching (put_word at (Slot s Todo) (found - 1))
      (put seat me (cond (found == 1) (Closes s) Free))
      p.looks (called_more p.calls me (p.calling me)) (put p.calling me Idle) answers' open_ open_ refl
      (λ e. absurd (ended_not e (subst (λ x. DoneShows u.cpus (p.now.stop s).standing x (at (Slot s Done))) e ((h.present.slots s).shows open_).done) of))
      refl (λ k. refl) (other_slots at s Todo (found - 1))
      (λ j. at_test j s (λ b. HasPast (cond b stop' (p.now.stop j)) (p.begun j) (p.collected j) (λ c. answers' c j))
      (λ e. let P : ℕ → Type 0 = λ k. HasPast stop' (p.begun k) (p.collected k) (λ c. answers' c k) in
      subst P (sym e) (past_answers stop' (p.begun s) (p.collected s) (put (λ c. p.answers c s) me (p.answers me s ++ v ∷ [])) (λ c. answers' c s)
      (here_more (p.answers me s ++ v ∷ []))
      ((h.past s).0, past_completes (h.past s).0 (p.now.stop s) (p.begun s) (p.collected s) (λ c. p.answers c s) (h.past s).1 me a v found none mine)))
      (λ ne. past_answers (p.now.stop j) (p.begun j) (p.collected j) (λ c. p.answers c j) (λ c. answers' c j) (there_same j ne (p.answers me s ++ v ∷ []))
      (h.past j)))
      (λ j. at_test j s (λ b. let y = cond b stop' (p.now.stop j) in
      y.is_open ≡ true → y.work.kind ≡ Patch → is_inside (y.standing j) ≡ true → RUN ≤ acked (y.standing u.first) → StandsSet y.work (at (Key y.work.func)))
      (λ e op kind in_ late. h.owns s op kind
      (put_all (λ c y. is_inside y ≡ true → is_inside ((p.now.stop s).standing c) ≡ true) (p.now.stop s).standing me to (λ bad. cc) (λ c ne i. i) s
      (subst (λ k. is_inside (stop'.standing k) ≡ true) e in_))
      (put_all (λ c y. RUN ≤ acked y → RUN ≤ acked ((p.now.stop s).standing c)) (p.now.stop s).standing me to
      (λ x. subst (λ n. RUN ≤ n) (sym (acked_it ((p.now.stop s).standing me) is)) x) (λ c ne l. l) u.first late))
      (λ ne. h.owns j))
      (step_completes u p.now at seat h.present s me a v in_ is turn (done, rests_me me (p.now.stop s).raising turn) on idle)
      (calling_next seat p.calling h.callings me (cond (found == 1) (Closes s) Free) Idle (ends (found == 1)))
      (last found)
    where
      ends : (b : Bool) → IsCalling me (cond b (Closes s) Free) Idle
      ends b = search arith

      -- the last of all is to store done
      last : (found : ℕ) → AreClosing (record (p.now) {
        stop = put p.now.stop s (completed (p.now.stop s) me a v found);
        inside = put p.now.inside me None;
      }) (put seat me (cond (found == 1) (Closes s) Free))
      last found = go (found == 1)
        where
          kept : (b : Bool) (stop' : Stop) → stop'.is_open ≡ (p.now.stop s).is_open → stop'.standing ≡ put (p.now.stop s).standing me (Completed a v) →
              stop'.ending ≡ (p.now.stop s).ending →
              AreClosing (record (p.now) { stop = put p.now.stop s stop' }) (put seat me (cond b (Closes s) Free))
          kept b stop' op same end = closing_kept p.now seat me (cond b (Closes s) Free) h.closing calm s stop'
              (λ c ne. ap (λ f. f c) same ∙ put_other (p.now.stop s).standing me (Completed a v) c ne) op end

          go : (b : Bool) → AreClosing (record (p.now) {
            stop = put p.now.stop s (record (p.now.stop s) {
              standing = put (p.now.stop s).standing me
                  (Completed a v);
              ending = cond b (Last me) (p.now.stop s).ending;
            });
          }) (put seat me (cond b (Closes s) Free))
          go false j c = kept false (record (p.now.stop s) { standing = put (p.now.stop s).standing me (Completed a v) }) refl refl refl j c
          go true j c = at_test j s (λ b. let y = cond b (record (p.now.stop s) {
            standing = put (p.now.stop s).standing me (Completed a v);
            ending = Last me;
          }) (p.now.stop j) in
              y.is_open ≡ true → y.ending ≡ Last c → (put seat me (Closes s) c ≡ Closes j) × HasCompleted (y.standing c))
              (λ e o l. let same : me ≡ c = cc in
              subst (λ k. (put seat me (Closes s) k ≡ Closes j) × HasCompleted (put (p.now.stop s).standing me (Completed a v) k)) same
              (put_same seat me (Closes s) ∙ ap Closes (sym e), subst HasCompleted (sym (put_same (p.now.stop s).standing me (Completed a v))) tt))
              (λ ne o l. closing_seat p.now seat me (Closes s) h.closing calm j c o l)

      acked_it : (x : Standing) → IsAnswer x a v → acked x ≡ a
      acked_it x e = search arith

      ended_not : (p.now.stop s).ending ≡ Ended → DoneShows u.cpus (p.now.stop s).standing Ended (at (Slot s Done)) → is_of ((p.now.stop s).standing me) ≡
          true → ⊥
      ended_not e d of = let z = sum_zero (λ c. unfinished ((p.now.stop s).standing c)) u.cpus d.1 me (search (in_machine, h.present.slots, arith)) in
          let one_ = answer_unfinished (p.now.stop s).phase a v ((p.now.stop s).standing me) is in omega arith

      here_more : (x : List ℕ) (c : ℕ) → put p.answers me (put (p.answers me) s x) c s ≡ put (λ c. p.answers c s) me x c
      here_more x c = search (at_test, put_same, arith)

      there_same : (j : ℕ) → j ≢ s → (x : List ℕ) (c : ℕ) → put p.answers me (put (p.answers me) s x) c j ≡ p.answers c j
      there_same j ne x c = search (at_test, put_other, arith)

  -- fetch_sub of todo, by who answers 0
  pub todo_subtracted : (job : Work) (a l answer : ℕ) → seat me ≡ In s job a l Rests → (a ≡ EXIT) ⊎ (job.kind ≡ One) →
      let found = at (Slot s Todo) in
      StopShows u (told u p me Act.Sub (Slot s Todo) (Some found) (Some (found - 1)) answer) (put_word at (Slot s Todo) (found - 1))
      (put seat me (cond (found == 1) (Closes s) Free)) source
  todo_subtracted job a l answer is through = let now = st job a l is through in
      let shown' = completes_shown job a 0 now.0 (subst (λ x. IsAnswer x a 0) (sym now.1) (refl, refl)) now.2 (is_done job a l is through) (search (
        on_now,
        arith,
      )) (subst IsNoPatch (sym is) tt) (subst IsNotClosing (sym is) tt) (ap answer_now now.1) (λ _ _. refl) in
      search (now.1, shown', arith)

  -- and by who has stored its answer
  pub todo_subtracted_answered : (job : Work) (a v answer : ℕ) → seat me ≡ Gives s job a v →
      let found = at (Slot s Todo) in
      StopShows u (told u p me Act.Sub (Slot s Todo) (Some found) (Some (found - 1)) answer) (put_word at (Slot s Todo) (found - 1))
      (put seat me (cond (found == 1) (Closes s) Free)) source
  todo_subtracted_answered job a v answer is = let now : RoleStands p.now me (Gives s job a v) = subst (RoleStands p.now me) is (h.present.stands me) in
      let k = keeps_inside u.cpus (p.now.stop s) w (h.present.slots s) me (Answering a v) now.1 in
      let shown' = completes_shown job a v now.0 (subst (λ x. IsAnswer x a v) (sym now.1) (refl, refl)) now.2 k.2 (ap irq_of is) (subst IsNoPatch (sym is) tt)
      (subst IsNotClosing (sym is) tt) (ap answer_now now.1)
      (subst (λ (x : Work). x.kind ≢ One → has x.active me ≡ false → v ≡ 0) (sym now.3)
      (given_quiet me s job a v (p.calling me) (subst (λ x. IsCalling me x (p.calling me)) is (h.callings me)))) in
      search (now.1, shown', arith)

  -- store of done by the last
  pub done_stored : (answer : ℕ) → seat me ≡ Closes s → StopShows u (told u p me Act.Store (Slot s Done) None (Some 1) answer) (put_word at (Slot s Done) 1)
      (put seat me Free) source
  done_stored answer is = let now : RoleStands p.now me (Closes s) = subst (RoleStands p.now me) is (h.present.stands me) in
      let stop' = ended (p.now.stop s) in
      let stays : StaysOpen (p.now.stop s) stop' = record { was = now.1; now = now.1; work = refl; end = λ _. refl; given = λ c. refl; active = λ a. a } in
      let shown' = open_step u p at seat source h s stop' p.now.inside p.now.irq p.now.readings p.now.patching (put_word at (Slot s Done) 1) (put seat me
      Free) p.looks p.calls p.calling stays refl (λ k. refl) (other_slots at s Done 1) (owns_kept u.first p.now (λ k. at (Key k)) s stop' p.now.inside
      p.now.irq p.now.readings p.now.patching stays record { inside = λ i. i; late = λ i. i } h.owns) (step_finishes u p.now at seat h.present s me is)
      (calling_same seat p.calling h.callings me Free (subst (IsCalling me Free) (sym (idle_closes me s (p.calling me) (subst (λ x. IsCalling me x
      (p.calling me)) is (h.callings me)))) tt)) (λ j c. at_test j s (λ b. let y = cond b stop' (p.now.stop j) in y.is_open ≡ true → y.ending ≡ Last c →
      (put seat me Free c ≡ Closes j) × HasCompleted (y.standing c)) (λ e o l. let bad : Ended ≡ Last c = l in cc) (λ ne o l. let k = h.closing j c o l in
      (put_other seat me Free c (λ same. let two : Closes j ≡ Closes s = sym k.0 ∙ (ap seat same ∙ is) in let bad : j ≡ s = cc in ne bad) ∙ k.0, k.1))) in
      search (now.1, shown', arith)
