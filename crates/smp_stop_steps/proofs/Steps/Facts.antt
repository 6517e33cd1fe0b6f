-- What a CPU inside a stop finds, and the state at first.
use Rattle.std.proofs.Common.{◌≡◌, ◌≢◌, ℕ, ◌+◌, ◌<◌, ◌≤◌, Bool, true, false, cond, sym, subst, refl, ap, ◌∙◌, ◌⊎◌, arith, eq-eqb, zero, suc, List, [], Some}
use Rattle.std.proofs.Common.{None}
use Rattle.std.proofs.lemmas.Nat.Bits.{bit_at-zero}
use Rattle.smp_words.proofs.Puts.{put_all}
use Rattle.smp_words.specs.declared.field.Field.TheVariants.{Ack, Arg, Roll, State, Todo}
use Rattle.smp_labels.specs.{Law.IsLawful, Plans.AreEntriesOf}
use Rattle.smp_stop_steps.specs.{IsCalling, told, may_call, calls_now, behind, count_behind, sum_below, unfinished, Change, labels_in, Alters, Free, Gives, In}
use Rattle.smp_stop_steps.specs.{Rests, StopRole, RoleStands, Duty, StopShows, IsWritten, Keeps, OpenShows, Shut, Source, IsSetup}
use Rattle.smp_stop_steps.specs.{Setup, StopState, no_stops, StopCall}
use Rattle.smp_stop_steps.specs.{Calls, Answering, Called, Inside, Standing, is_called, Work, Gate, Slot, Key, Word, has, Act}
use Rattle.smp_stop_steps.proofs.State.Phases.{is_open_inside, keeps_inside, none_raises}
use Rattle.smp_stop_steps.proofs.{State.KeyCounts.opened_count, Basics.Counts.sum_zero, State.Acknowledged.nobody_raises}

-- a sum of numbers of at most 1
sum_most : (f : ℕ → ℕ) (n : ℕ) → ((c : ℕ) → f c ≤ 1) → sum_below f n ≤ n
unfolding sum_below
sum_most f zero small = omega arith
sum_most f (suc n) small = let b = sum_most f n small in omega arith

behind_most : (p : ℕ) (x : Standing) → behind p x ≤ 1
behind_most p x = search arith

unfinished_most : (x : Standing) → unfinished x ≤ 1
unfinished_most x = search arith

module _ (u : Setup) (p : StopState) (at : Word → ℕ) (seat : ℕ → StopRole) (source : ℕ → Source) (h : StopShows u p at seat source) (s me : ℕ) where
  -- who patches is active in its stop
  pub patcher_active : (work : Work) (count : ℕ) (made rest : List Change) → seat me ≡ Alters s work count made rest → has work.active me ≡ true
  patcher_active work count made rest is = search (h.present.stands, is_open_inside, h.present.slots, h.present.works, eq-eqb, arith)

  module _ (job : Work) (a l : ℕ) (t : Duty) (is : seat me ≡ In s job a l t) where
    st : RoleStands p.now me (In s job a l t)
    st = subst (RoleStands p.now me) is (h.present.stands me)

    shown : OpenShows u.cpus (p.now.stop s) (λ f. at (Slot s f))
    shown = (h.present.slots s).shows (is_open_inside u.cpus (p.now.stop s) (λ f. at (Slot s f)) (h.present.slots s) me (Inside a l) st.1 refl)

    -- the words of the work are its numbers
    pub work_words : IsWritten (λ f. at (Slot s f)) job
    work_words = subst (IsWritten (λ f. at (Slot s f))) st.3 shown.written

    -- with the load of the argument a CPU that may call the function calls it
    pub arg_loaded : (answer : ℕ) → t ≡ Rests → StopShows u (told u p me Act.Load (Slot s Arg) (Some (at (Slot s Arg))) None answer) at seat source
    arg_loaded answer rests = go (may_call me (p.now.stop s).work ((p.now.stop s).standing me)) refl
      where
        called : StopCall
        called = record { func = (p.now.stop s).work.func; arg = at (Slot s Arg); answer = answer }

        go : (b : Bool) → may_call me (p.now.stop s).work ((p.now.stop s).standing me) ≡ b →
            StopShows u (cond b (calls_now p me (p.now.stop s).work (at (Slot s Arg)) answer) p) at seat source
        go false e = h
        go true e = search ((put_all (λ c x. IsCalling c (seat c) x) p.calling me (Calls called) (search (called, arith)) (λ c ne. h.callings c)), arith)

    -- the CPU is of the mask, and of the machine
    pub inside_keeps : Keeps u.cpus (p.now.stop s).phase me (Inside a l)
    inside_keeps = keeps_inside u.cpus (p.now.stop s) (λ f. at (Slot s f)) (h.present.slots s) me (Inside a l) st.1

    -- the state is the phase that the CPU acknowledged, or the one after it
    pub state_near : (at (Slot s State) ≡ a) ⊎ (at (Slot s State) ≡ a + 1)
    state_near = search arith

    -- todo is not 0, and at most the number of CPUs
    pub todo_bounds : (0 < at (Slot s Todo)) × (at (Slot s Todo) ≤ u.cpus)
    todo_bounds = let most = sum_most (λ c. unfinished ((p.now.stop s).standing c)) u.cpus (λ c. unfinished_most ((p.now.stop s).standing c)) in
        let is_todo = shown.todo in (
          more (at (Slot s Todo)) (λ z. let none = sum_zero (λ c. unfinished ((p.now.stop s).standing c)) u.cpus (sym is_todo ∙ z) me inside_keeps.0 in
              let one_ : unfinished ((p.now.stop s).standing me) ≡ 1 = ap unfinished st.1 in omega arith),
          omega arith,
        )
      where
        more : (n : ℕ) → n ≢ 0 → 0 < n
        more n ne = search arith

  -- the count of acknowledgements is not 0, and at most the number of CPUs, for who has looked at a new phase
  ack_known : (a : ℕ) → (p.now.stop s).standing me ≡ Inside a (a + 1) → (0 < at (Slot s Ack)) × (at (Slot s Ack) ≤ u.cpus)
  ack_known a is =
      let o = (h.present.slots s).shows (is_open_inside u.cpus (p.now.stop s) (λ f. at (Slot s f)) (h.present.slots s) me (Inside a (a + 1)) is refl) in
      let k = keeps_inside u.cpus (p.now.stop s) (λ f. at (Slot s f)) (h.present.slots s) me (Inside a (a + 1)) is in
      let busy : (p.now.stop s).phase ≢ 0 = λ z. omega arith in
      let none = nobody_raises u.cpus (p.now.stop s) (at (Slot s Ack)) me a (a + 1) (p.now.stop s).raising is k.0 (λ e. omega arith) (o.ack busy) in
      let counted : at (Slot s Ack) ≡ count_behind u.cpus (p.now.stop s).phase (p.now.stop s).standing = search (o.ack, arith) in
      let most = sum_most (λ c. behind (p.now.stop s).phase ((p.now.stop s).standing c)) u.cpus (search (behind_most, arith)) in (
        more (at (Slot s Ack)) (λ z. none_raises u.cpus (p.now.stop s).phase (p.now.stop s).standing me a (a + 1) is k.0 (λ e. omega arith)
            (sym counted ∙ z)),
        omega arith,
      )
    where
      more : (n : ℕ) → n ≢ 0 → 0 < n
      more n ne = search arith

  pub ack_bounds : (job : Work) (a : ℕ) → seat me ≡ In s job a (a + 1) Rests → (0 < at (Slot s Ack)) × (at (Slot s Ack) ≤ u.cpus)
  ack_bounds job a is = ack_known a (st job a (a + 1) Rests is).1

  pub ack_bounds_patched : (job : Work) (count : ℕ) (made : List Change) → seat me ≡ Alters s job count made [] →
      (0 < at (Slot s Ack)) × (at (Slot s Ack) ≤ u.cpus)
  ack_bounds_patched job count made is = search (h.present.stands, ack_known, arith)

  -- the same of todo, for who has stored its answer
  pub todo_bounds_answered : (job : Work) (a v : ℕ) → seat me ≡ Gives s job a v → (0 < at (Slot s Todo)) × (at (Slot s Todo) ≤ u.cpus)
  todo_bounds_answered job a v is = let now : RoleStands p.now me (Gives s job a v) = subst (RoleStands p.now me) is (h.present.stands me) in
      let o = (h.present.slots s).shows (is_open_inside u.cpus (p.now.stop s) (λ f. at (Slot s f)) (h.present.slots s) me (Answering a v) now.1 refl) in
      let k = keeps_inside u.cpus (p.now.stop s) (λ f. at (Slot s f)) (h.present.slots s) me (Answering a v) now.1 in
      let most = sum_most (λ c. unfinished ((p.now.stop s).standing c)) u.cpus (λ c. unfinished_most ((p.now.stop s).standing c)) in
      let is_todo = o.todo in (
        more (at (Slot s Todo)) (λ z. let none = sum_zero (λ c. unfinished ((p.now.stop s).standing c)) u.cpus (sym is_todo ∙ z) me k.0 in
            let one_ : unfinished ((p.now.stop s).standing me) ≡ 1 = ap unfinished now.1 in omega arith),
        omega arith,
      )
    where
      more : (n : ℕ) → n ≢ 0 → 0 < n
      more n ne = search arith

-- a roll has no CPU past the last
pub high_none : (u : Setup) (p : StopState) (at : Word → ℕ) (seat : ℕ → StopRole) (source : ℕ → Source) → StopShows u p at seat source → (slot c : ℕ) → 64 ≤ c →
    has (at (Slot slot Roll)) c ≡ false
high_none u p at seat source h slot c high = (h.present.slots slot).roll c ∙ go ((p.now.stop slot).standing c) ((h.present.slots slot).keeps c)
  where
    go : (x : Standing) → Keeps u.cpus (p.now.stop slot).phase c x → is_called x ≡ false
    go Called k = absurd (let few = h.setup.few in let low = k.0 in omega arith)
    go _ k = refl

-- at first no stop is open
pub no_stops_shown : (u : Setup) (at : Word → ℕ) → IsSetup u → at Gate ≡ 0 → ((s : ℕ) → at (Slot s Roll) ≡ 0) → AreEntriesOf u.entries (labels_in at) →
    IsLawful (labels_in at) →
    ((k : ℕ) → at (Key k) ≡ 0) → StopShows u no_stops at (λ _. Free) (λ _. Shut)
no_stops_shown u at setup gate rolls entries lawful off = search (bit_at-zero, opened_count, arith)
