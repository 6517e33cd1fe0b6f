-- Acknowledging, refilling, raising and looking, among all slots and CPUs.
use Rattle.std.proofs.Common.{◌≡◌, ◌≢◌, ℕ, ◌+◌, ◌-◌, ◌<◌, Bool, true, ◌==◌, cond, sym, subst, refl, arith, ne_eqb, eq-eqb, Some, List}
use Rattle.std.specs.List.{AllByRecursion}
use Rattle.smp_words.proofs.Puts.{at_test, put_same, put_other}
use Rattle.smp_words.specs.declared.field.Field.TheVariants.{Ack, State}
use Rattle.smp_stop_steps.specs.{put, put_word, weight, Agrees, Reading, labels_in, IsNot, PresentShows, Fills, In, Rests, StopRole}
use Rattle.smp_stop_steps.specs.{Sets, RoleStands, Duty, irq_of}
use Rattle.smp_stop_steps.specs.{duty_of, AckShows, Setup, Inside, Nobody, Raises, Raising, Refills, Standing, acknowledged, is_inside, raised, refilled}
use Rattle.smp_stop_steps.specs.{stands, Field, Work, Slot, Word, State.Present, Stop.Stop}
use Rattle.smp_stop_steps.proofs.State.Moves.{IsNoPatch, SaveMe, moved, moves, slot_put, slot_same}
use Rattle.smp_stop_steps.proofs.State.Phases.{acknowledges_slot, is_open_inside, none_raises, refills_slot}
use Rattle.smp_stop_steps.proofs.{State.Raises.raises_slot, State.Works.looks_slot}
use Rattle.smp_stop_steps.specs.Names.{EXIT}

-- nobody raises while one of the mask is behind
pub nobody_raises : (cpus : ℕ) (stop : Stop) (ack me a l : ℕ) (r : Raising) → stop.standing me ≡ Inside a l → me < cpus → a ≢ stop.phase →
    AckShows cpus stop.phase stop.standing r ack → r ≡ Nobody
nobody_raises cpus stop ack me a l Nobody is small ne h = refl
nobody_raises cpus stop ack me a l (Refills r) is small ne h = absurd (none_raises cpus stop.phase stop.standing me a l is small ne h.1)
nobody_raises cpus stop ack me a l (Raises r) is small ne h = absurd (none_raises cpus stop.phase stop.standing me a l is small ne h.1)

-- whose turn it is, by a CPU's turn
pub fills_me : (me : ℕ) (r : Raising) → duty_of r me ≡ Fills → r ≡ Refills me
fills_me me r e = search (at_test, arith)

pub sets_me : (me : ℕ) (r : Raising) → duty_of r me ≡ Sets → r ≡ Raises me
sets_me me r e = search (at_test, arith)

-- who has nothing to do for the next phase does not set it
pub rests_me : (me : ℕ) (r : Raising) → duty_of r me ≡ Rests → IsNot me r
rests_me me r e = search (at_test, arith)

module _ (u : Setup) (p : Present) (at : Word → ℕ) (seat : ℕ → StopRole) (h : PresentShows u p at seat)
    (s me : ℕ) (irq' : ℕ → Bool) (readings' : ℕ → List Reading) (save : SaveMe p me p.inside irq' readings') where
  turn_here : (stop' : Stop) (t : Duty) → duty_of stop'.raising me ≡ t → duty_of (put p.stop s stop' s).raising me ≡ t
  turn_here stop' t e = at_test s s (λ b. duty_of (cond b stop' (p.stop s)).raising me ≡ t) (λ _. e) (λ ne. absurd (ne refl))

  standing_here : (stop' : Stop) (x : Standing) → stop'.standing me ≡ x → (put p.stop s stop' s).standing me ≡ x
  standing_here stop' x e = at_test s s (λ b. (cond b stop' (p.stop s)).standing me ≡ x) (λ _. e) (λ ne. absurd (ne refl))

  work_here : (stop' : Stop) (w : Work) → stop'.work ≡ w → (put p.stop s stop' s).work ≡ w
  work_here stop' w e = at_test s s (λ b. (cond b stop' (p.stop s)).work ≡ w) (λ _. e) (λ ne. absurd (ne refl))

  -- where a CPU that stays inside is at home
  home_stays : (stop' : Stop) (a l : ℕ) → (p.stop s).standing me ≡ Inside a l → p.inside me ≡ Some s →
      (j : ℕ) → is_inside ((put p.stop s stop' j).standing me) ≡ true → p.inside me ≡ Some j
  home_stays stop' a l is in_ j = search (at_test, h.homes, arith)

  -- fetch_sub of the count, by a CPU that looked at a new phase
  pub step_acknowledges : (job : Work) (a : ℕ) → seat me ≡ In s job a (a + 1) Rests →
      let next = In s job (a + 1) (a + 1) (cond (at (Slot s Ack) == 1) Fills Rests) in
      irq' me ≡ irq_of next → (u.online me ≡ true → irq_of next ≡ true → AllByRecursion (Agrees (labels_in at)) (readings' me)) →
      PresentShows u (moved p s (acknowledged (p.stop s) me (a + 1) (at (Slot s Ack))) p.inside irq' readings') (put_word at (Slot s Ack)
      (at (Slot s Ack) - 1)) (put seat me next)
  step_acknowledges job a is off read = let found = at (Slot s Ack) in
      let stop' = acknowledged (p.stop s) me (a + 1) found in
      let w : Field → ℕ = λ f. at (Slot s f) in
      let st : RoleStands p me (In s job a (a + 1) Rests) = subst (RoleStands p me) is (h.stands me) in
      let o = (h.slots s).shows (is_open_inside u.cpus (p.stop s) w (h.slots s) me (Inside a (a + 1)) st.1 refl) in
      let no : (p.stop s).raising ≡ Nobody = search (nobody_raises, o.ack, arith) in
      moves u p at (put_word at (Slot s Ack) (found - 1)) seat s me stop' p.inside irq' readings' (In s job (a + 1) (a + 1) (cond (found == 1) Fills Rests)) h
      (slot_put u.cpus p.stop at s Ack (found - 1) stop' h.slots (acknowledges_slot u.cpus (p.stop s) w (h.slots s) me a st.1)) refl
      (search (put_other, arith))
      save (search (at_test, put_same, work_here, arith))
      (home_stays stop' a (a + 1) st.1 st.0) off read
      (subst IsNoPatch (sym is) tt) (λ op kind. h.works s op kind)

  -- store of the count, by the one that found 1
  pub step_refills : (job : Work) (a l : ℕ) → seat me ≡ In s job a l Fills → (p.stop s).phase ≢ 0 →
      irq' me ≡ irq_of (In s job a l Sets) → (u.online me ≡ true → irq_of (In s job a l Sets) ≡ true → AllByRecursion (Agrees (labels_in at)) (readings' me)) →
      PresentShows u (moved p s (refilled (p.stop s) me) p.inside irq' readings') (put_word at (Slot s Ack) (weight u.cpus (p.stop s).standing))
      (put seat me (In s job a l Sets))
  step_refills job a l is phase off read = let st : RoleStands p me (In s job a l Fills) = subst (RoleStands p me) is (h.stands me) in
      let open_ = is_open_inside u.cpus (p.stop s) (λ f. at (Slot s f)) (h.slots s) me (Inside a l) st.1 refl in
      let mine = fills_me me (p.stop s).raising st.2 in
      moves u p at (put_word at (Slot s Ack) (weight u.cpus (p.stop s).standing)) seat s me (refilled (p.stop s) me) p.inside irq' readings'
      (In s job a l Sets) h
      (search (slot_put, refills_slot, h.slots, arith)) refl
      (search (ne_eqb, arith))
      save (search (standing_here, turn_here, eq-eqb, work_here, arith))
      (home_stays (refilled (p.stop s) me) a l st.1 st.0) off read
      (subst IsNoPatch (sym is) tt) (λ op kind. h.works s op kind)

  -- store of the state
  pub step_raises : (job : Work) (a l : ℕ) → seat me ≡ In s job a l Sets → (p.stop s).phase ≢ 0 →
      irq' me ≡ irq_of (In s job a l Rests) → (u.online me ≡ true → irq_of (In s job a l Rests) ≡ true → AllByRecursion (Agrees (labels_in at))
      (readings' me)) →
      PresentShows u (moved p s (raised (p.stop s) ((p.stop s).phase + 1)) p.inside irq' readings') (put_word at (Slot s State) ((p.stop s).phase + 1))
      (put seat me (In s job a l Rests))
  step_raises job a l is phase off read = let w : Field → ℕ = λ f. at (Slot s f) in
      let n = (p.stop s).phase + 1 in
      let st : RoleStands p me (In s job a l Sets) = subst (RoleStands p me) is (h.stands me) in
      let open_ = is_open_inside u.cpus (p.stop s) w (h.slots s) me (Inside a l) st.1 refl in
      let mine = sets_me me (p.stop s).raising st.2 in
      moves u p at (put_word at (Slot s State) n) seat s me (raised (p.stop s) n) p.inside irq' readings' (In s job a l Rests) h
      (slot_put u.cpus p.stop at s State n (raised (p.stop s) n) h.slots (raises_slot u.cpus (p.stop s) w (h.slots s) me mine open_ phase)) refl
      (search (ne_eqb, arith))
      save
      (st.0, standing_here (raised (p.stop s) n) (Inside a l) st.1, turn_here (raised (p.stop s) n) Rests refl, work_here (raised (p.stop s) n) job st.3)
      (home_stays (raised (p.stop s) n) a l st.1 st.0) off read
      (subst IsNoPatch (sym is) tt) (λ op kind. h.works s op kind)

  -- load of the state
  pub step_looks : (job : Work) (a l : ℕ) → seat me ≡ In s job a l Rests → a ≢ EXIT →
      let next = In s job a (at (Slot s State)) Rests in
      irq' me ≡ irq_of next → (u.online me ≡ true → irq_of next ≡ true → AllByRecursion (Agrees (labels_in at)) (readings' me)) →
      PresentShows u (moved p s (stands (p.stop s) me (Inside a (at (Slot s State)))) p.inside irq' readings') at (put seat me next)
  step_looks job a l is more off read = let w : Field → ℕ = λ f. at (Slot s f) in
      let to = Inside a (at (Slot s State)) in
      let stop' = stands (p.stop s) me to in
      let st : RoleStands p me (In s job a l Rests) = subst (RoleStands p me) is (h.stands me) in
      moves u p at at seat s me stop' p.inside irq' readings' (In s job a (at (Slot s State)) Rests) h
      (slot_same u.cpus p.stop at s stop' h.slots (looks_slot u.cpus (p.stop s) w (h.slots s) me a l st.1 more (rests_me me (p.stop s).raising st.2))) refl
      (search (put_other, arith))
      save
      (st.0, standing_here stop' to (put_same (p.stop s).standing me to), turn_here stop' Rests st.2, work_here stop' job st.3)
      (home_stays stop' a l st.1 st.0) off read
      (subst IsNoPatch (sym is) tt) (λ op kind. h.works s op kind)
