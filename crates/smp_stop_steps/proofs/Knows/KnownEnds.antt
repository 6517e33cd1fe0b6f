-- The steps of a CPU that knows v at the end of a stop: it stores its answer, counts itself, and stores done.
use Rattle.std.proofs.Common.{◌≡◌, ◌≢◌, ℕ, ◌-◌, ◌<◌, false, ◌==◌, cond, Option, Some, None, inr, [], ◌∷◌, ◌++◌, get_or, set, sym, subst, refl, ap, ◌∙◌, arith}
use Rattle.smp_words.specs.Access.{one_less}
use Rattle.smp_words.proofs.Puts.{put_same, put_other}
use Rattle.smp_stop_steps.specs.{put, put_word, cpus, IsCalling, answer_in, with_answer, StopRole, Free, In, Gives, Closes, Rests}
use Rattle.smp_stop_steps.specs.{StopShows, Source, Setup, Field}
use Rattle.smp_stop_steps.specs.{StopState, Calling, Idle, Standing, told, stored_open, stored_shut, completes, completes_with, told_calling, Sees, GoesOnBy}
use Rattle.smp_stop_steps.specs.{Act, columns_of, AreFirst, setup_in, is_drafting, drafted_known, slot_stored, member_stored, given_by, completed_by}
use Rattle.smp_stop_steps.specs.{completed_with, Work, Word, Slot, Threads.Known.AreTold, Threads.Known.KnownStops, Threads.Moves.IsThrough}
use Rattle.smp_stop_steps.proofs.Steps.Completions.{result_stored, todo_subtracted, todo_subtracted_answered, done_stored}
use Rattle.smp_stop_steps.proofs.Knows.Parts.{Leaves, first_put, goes_seat, seen_by, told_so}
use Rattle.smp_stop_steps.proofs.{Steps.Callings.answer_replaced, Steps.Callings.calling_given, Steps.Facts.todo_bounds, Steps.Facts.todo_bounds_answered}
use Rattle.smp_stop_steps.proofs.{Knows.KnownRounds.open_at, Knows.KnownRounds.stands, Knows.KnownRounds.small, Steps.StageSteps.less_one}

-- another answer is told as the one before
answers : (x : ℕ) (f : Calling) → f ≢ Idle → answer_in (with_answer x f) ≡ x
answers x f ne = search arith

told_same : (x : ℕ) (f : Calling) → told_calling (with_answer x f) ≡ told_calling f
told_same x f = search arith

module _ (p : StopState) (at : Word → ℕ) (seat : ℕ → StopRole) (source : ℕ → Source) (v : KnownStops) (h : StopShows (setup_in v.setting) p at seat source)
    (sees : Sees p seat source v) where
  abbrev u : Setup
  u = setup_in v.setting

  abbrev Goes : Act → Word → Option ℕ → Option ℕ → (Word → ℕ) → KnownStops → Type 0
  Goes a w found new at' known = GoesOnBy v.setting p seat source v.number at' known (seen_by v.number a w found new)

  abbrev Stores : Word → ℕ → KnownStops → Type 0
  Stores w n known = Goes Act.Store w None (Some n) (put_word at w n) known

  abbrev Subs : Word → KnownStops → Type 0
  Subs w known = Goes Act.Sub w (Some (at w)) (Some (one_less (at w))) (put_word at w (one_less (at w))) known

  -- until the completion tells it, any answer may be put for that of the function
  abbrev answering : ℕ → StopState
  answering x = record p { calling = put p.calling v.number (with_answer x (p.calling v.number)) }

  pub answers_so : (s : ℕ) (w : Work) (a l x : ℕ) → seat v.number ≡ In s w a l Rests → StopShows u (answering x) at seat source
  answers_so s w a l x here = answer_replaced u p at seat source h v.number s w a l Rests x here

  -- the store of an answer tells the stops after it with this answer
  told_else : (s x : ℕ) (p' : StopState) → told u (answering x) v.number Act.Store (Slot s Field.Result) None (Some x) 0 ≡ p'
      → AreTold u v.number p p' (seen_by v.number Act.Store (Slot s Field.Result) None (Some x))
  told_else s x p' e = record { before = answering x; alike = inr (s, x, refl, refl, refl); told = sym e }

  pub give : (s : ℕ) (w : Work) (a l x : ℕ) → v.seat ≡ In s w a l Rests → IsThrough w a → x ≢ 0 → is_drafting v.source ≡ false → v.part.calling ≢ Idle →
      Stores (Slot s Field.Result) x (slot_stored Field.Result x v)
  give s w a l x is through some idle runs = let at' = put_word at (Slot s Field.Result) x in
      let here = sees.seat_is ∙ is in
      let g = with_answer x (p.calling v.number) in
      let p0 = answering x in
      let h0 = answers_so s w a l x here in
      let mine : p0.calling v.number ≡ g = put_same p.calling v.number g in
      let calls : IsCalling v.number (Gives s w a x) (p0.calling v.number) = search (calling_given, answers, arith) in
      let known : slot_stored Field.Result x v ≡ record v { seat = Gives s w a x } =
      ap (λ b. cond b (drafted_known Field.Result x v) (member_stored Field.Result x v)) idle ∙ ap (λ y. record v { seat = given_by x y }) is in
      let plain = ap (λ b. cond b (stored_open p0 v.number s Field.Result x) (stored_shut p0 s Field.Result x)) (open_at p at seat source v h sees s w a l
      Rests is) in
      let shown' = goes_seat p seat source v sees (stored_open p0 v.number s Field.Result x) at' (Gives s w a x) v.part
      (told_else s x (stored_open p0 v.number s Field.Result x) plain) (subst (λ q. StopShows u q at' (put
      seat v.number (Gives s w a x)) source) plain (result_stored u p0 at seat source h0 s v.number w a l here through x 0 some calls)) record {
        mine = search (answers, told_same, arith);
        others = λ c ne. ap (λ y. record (columns_of p c) { calling = told_calling y }) (put_other p.calling v.number g c ne);
      } in
      search (known, shown', arith)

  completed_leaves : (s : ℕ) (w : Work) (a x found : ℕ) → s < cpus → Leaves v.number p (completes_with p v.number s a x found) (completed_with found s w x
      v).part
  completed_leaves s w a x found low = let k = sees.part_is in
      let more = p.answers v.number s ++ x ∷ [] in
      let mine = put (p.answers v.number) s more in
      let grown : AreFirst cpus mine [] (set v.part.answers s more) = first_put cpus (p.answers v.number) [] v.part.answers s more k.answers low in
      let answers' = subst (λ f. AreFirst cpus f [] (set v.part.answers s (get_or v.part.answers s [] ++ x ∷ []))) (sym (put_same p.answers v.number mine))
      (subst (λ l. AreFirst cpus mine [] (set v.part.answers s (l ++ x ∷ []))) (k.answers.each s low) grown) in
      search (answers', put_same, put_other, arith)

  -- the seat of who has counted itself, and what it knows
  counted_goes : (s : ℕ) (w : Work) (a x : ℕ) → s < cpus →
      let found = at (Slot s Field.Todo) in
      let at' = put_word at (Slot s Field.Todo) (found - 1) in
      let p' = completes_with p v.number s a x found in
      told u p v.number Act.Sub (Slot s Field.Todo) (Some found) (Some (one_less found)) 0 ≡ p' →
      StopShows u p' at' (put seat v.number (cond (found == 1) (Closes s) Free)) source →
      Goes Act.Sub (Slot s Field.Todo) (Some found) (Some (one_less found)) at' (completed_with found s w x v)
  counted_goes s w a x low plain shown = let found = at (Slot s Field.Todo) in
      let p' = completes_with p v.number s a x found in
      goes_seat p seat source v sees p' (put_word at (Slot s Field.Todo) (found - 1)) (cond (found == 1) (Closes s) Free) (completed_with found s w x v).part
      (told_so u v.number p p' Act.Sub (Slot s Field.Todo) (Some found) (Some (one_less found)) plain) shown (completed_leaves s w a x found low)

  pub count : (s : ℕ) (w : Work) (a l : ℕ) → v.seat ≡ In s w a l Rests → IsThrough w a → s < cpus →
      Subs (Slot s Field.Todo) (completed_by (at (Slot s Field.Todo)) v.seat v)
  count s w a l is through low = let found = at (Slot s Field.Todo) in
      let here = sees.seat_is ∙ is in
      let st = stands p at seat source v h sees (In s w a l Rests) is in
      let bounds = todo_bounds u p at seat source h s v.number w a l Rests here in
      let shown' = counted_goes s w a 0 low (ap (λ (x : Standing). completes p v.number s x found) st.1)
      (subst (λ (x : Standing). StopShows u (completes p v.number s x found) (put_word at (Slot s Field.Todo) (found - 1)) (put seat v.number (cond (found == 1)
      (Closes s) Free)) source) st.1 (todo_subtracted u p at seat source h s v.number w a l 0 here through)) in
      search (less_one found bounds.0 (small found bounds.1), is, shown', arith)

  pub count_given : (s : ℕ) (w : Work) (a x : ℕ) → v.seat ≡ Gives s w a x → s < cpus →
      Subs (Slot s Field.Todo) (completed_by (at (Slot s Field.Todo)) v.seat v)
  count_given s w a x is low = let found = at (Slot s Field.Todo) in
      let here = sees.seat_is ∙ is in
      let st = stands p at seat source v h sees (Gives s w a x) is in
      let bounds = todo_bounds_answered u p at seat source h s v.number w a x here in
      let shown' = counted_goes s w a x low (ap (λ (y : Standing). completes p v.number s y found) st.1)
      (subst (λ (y : Standing). StopShows u (completes p v.number s y found) (put_word at (Slot s Field.Todo) (found - 1)) (put seat v.number (cond (found == 1)
      (Closes s) Free)) source) st.1 (todo_subtracted_answered u p at seat source h s v.number w a x 0 here)) in
      search (less_one found bounds.0 (small found bounds.1), is, shown', arith)

  pub close : (s : ℕ) → v.seat ≡ Closes s → is_drafting v.source ≡ false → Stores (Slot s Field.Done) 1 (slot_stored Field.Done 1 v)
  close s is idle = let at' = put_word at (Slot s Field.Done) 1 in
      let plain : told u p v.number Act.Store (Slot s Field.Done) None (Some 1) 0 ≡ stored_open p v.number s Field.Done 1 =
      ap (λ b. cond b (stored_open p v.number s Field.Done 1) (stored_shut p s Field.Done 1)) (stands p at seat source v h sees (Closes s) is).1 in
      let known : slot_stored Field.Done 1 v ≡ record v { seat = Free } = ap (λ b. cond b (drafted_known Field.Done 1 v) (member_stored Field.Done 1 v))
      idle in
      let shown' = goes_seat p seat source v sees (stored_open p v.number s Field.Done 1) at' Free v.part
      (told_so u v.number p (stored_open p v.number s Field.Done 1) Act.Store (Slot s Field.Done) None (Some 1) plain)
      (subst (λ q. StopShows u q at' (put seat v.number
      Free) source) plain (done_stored u p at seat source h s v.number 0 (sees.seat_is ∙ is))) record { mine = sees.part_is; others = λ c ne. refl } in
      search (known, shown', arith)
