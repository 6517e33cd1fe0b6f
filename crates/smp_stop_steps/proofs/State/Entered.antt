-- Entering, completing, opening and collecting, among all slots and CPUs.
use Rattle.std.proofs.Common.{◌≡◌, ◌≢◌, ℕ, ◌-◌, Bool, true, false, ◌==◌, cond, sym, subst, refl, ap, ◌∙◌, ◌⊎◌, arith, Option, Some, None}
use Rattle.smp_words.proofs.Puts.{at_test, put_same, put_other}
use Rattle.smp_words.specs.Put.{same_field}
use Rattle.smp_words.specs.declared.field.Field.TheVariants.{Done, Result, Roll, Todo}
use Rattle.smp_labels.specs.Plans.{stored}
use Rattle.smp_stop_steps.specs.{put, put_word, count_unfinished, unfinished, IsAnswer, IsNot, IsThrough, PresentShows, Closes}
use Rattle.smp_stop_steps.specs.{Free, Gives, In, Rests, StopRole}
use Rattle.smp_stop_steps.specs.{RoleStands, irq_of, duty_of, IsStored, OpenShows, SlotShows, put_field, IsOfKind, IsPatchWork, IsWork, Setup, Answering}
use Rattle.smp_stop_steps.specs.{Called, Completed, Inside, Last, Outside, Standing, closed, completed, ended, is_inside, is_of, opened}
use Rattle.smp_stop_steps.specs.{stands, Field, Patch, Kind as KindOf, Work, Slot, Word, has, State.Present, Stop.Stop}
use Rattle.smp_stop_steps.proofs.State.Ends.{all_outside, answer_of_it, collects_slot, completes_slot, finishes_slot, opens_slot}
use Rattle.smp_stop_steps.proofs.State.Moves.{IsNoPatch, SaveMe, moved, moves, slot_put, slot_same, source_moves}
use Rattle.smp_stop_steps.proofs.State.Works.{answers_slot, enters_slot, not_raising}
use Rattle.smp_stop_steps.proofs.{Basics.Counts.sum_zero, State.Phases.is_open_inside, State.Raises.in_machine}
use Rattle.smp_stop_steps.specs.Names.{EXIT}

module _ (u : Setup) (p : Present) (at : Word → ℕ) (seat : ℕ → StopRole) (h : PresentShows u p at seat) (s : ℕ) where
  abbrev w : Field → ℕ
  w f = at (Slot s f)

  -- store of the roll
  pub step_opens : (work : Work) → (p.stop s).is_open ≡ false → IsWork u work → IsStored u.cpus w work 10 →
      PresentShows u (moved p s (opened (p.stop s) work) p.inside p.irq p.readings) (put_word at (Slot s Roll) work.mask) seat
  step_opens work shut is_work stored = source_moves u p at (put_word at (Slot s Roll) work.mask) seat s (opened (p.stop s) work) h
      (slot_put u.cpus p.stop at s Roll work.mask (opened (p.stop s) work) h.slots (opens_slot u.cpus (p.stop s) w (h.slots s) work is_work.below
      is_work.some stored)) refl
      (search (nobody, calls, arith))
      (λ _ kind. patch_of_kind work.kind kind is_work.kind)
    where
      patch_of_kind : (k : KindOf) → k ≡ Patch → IsOfKind u work k → IsPatchWork u.online u.first u.keys work
      patch_of_kind k e is = search arith

      nobody : {x : Standing} → x ≡ Outside → is_inside x ≡ true → ⊥
      nobody e i = cc

      calls : (b : Bool) → is_inside (cond b Called Outside) ≡ true → ⊥
      calls b e = search arith

  -- store of a field but the roll, where no stop is open
  pub step_drafts : (f : Field) (n : ℕ) (work : Work) → (p.stop s).is_open ≡ false → same_field f Roll true ≡ false →
      PresentShows u (moved p s (record (p.stop s) { work = work }) p.inside p.irq p.readings) (put_word at (Slot s f) n) seat
  step_drafts f n work shut other = let out = all_outside u.cpus (p.stop s) w (h.slots s) shut in
      let stop' : Stop = record (p.stop s) { work = work } in
      source_moves u p at (put_word at (Slot s f) n) seat s stop' h
      (slot_put u.cpus p.stop at s f n stop' h.slots (drafted_slot f n work shut out other)) refl
      (λ c. record { on = λ _. refl; back = λ i. i; work = λ i. absurd (nobody (out c) i); turn = λ _. refl; ending = λ op e. absurd (apart (sym op ∙ shut)) })
      (λ op _. absurd (apart (sym op ∙ shut)))
    where
      apart : true ≡ false → ⊥
      apart e = cc

      nobody : {x : Standing} → x ≡ Outside → is_inside x ≡ true → ⊥
      nobody e i = cc

      drafted_slot : (f : Field) (n : ℕ) (work : Work) → (p.stop s).is_open ≡ false → ((c : ℕ) → (p.stop s).standing c ≡ Outside) →
          same_field f Roll true ≡ false →
          SlotShows u.cpus (record (p.stop s) { work = work }) (put_field w f n)
      drafted_slot f n work shut out other = search (h.slots, apart, arith)

  -- load of the result, after done was found
  pub step_collects : (p.stop s).is_open ≡ true → at (Slot s Done) ≡ 1 → PresentShows u (moved p s (closed (p.stop s)) p.inside p.irq p.readings) at seat
  step_collects open_ found = source_moves u p at at seat s (closed (p.stop s)) h
      (slot_same u.cpus p.stop at s (closed (p.stop s)) h.slots (collects_slot u.cpus (p.stop s) w (h.slots s) open_ found).1) refl
      (search (gone, apart, arith))
      (λ bad kind. absurd (apart bad))
    where
      apart : false ≡ true → ⊥
      apart e = cc

      inside_unfinished : (x : Standing) → is_inside x ≡ true → (is_of x ≡ true) × (unfinished x ≡ 1)
      inside_unfinished x e = search arith

      gone : count_unfinished u.cpus (p.stop s).standing ≡ 0 → (c : ℕ) → is_inside ((p.stop s).standing c) ≡ true → ⊥
      gone z c i = let both = inside_unfinished ((p.stop s).standing c) i in
          let zero_ = sum_zero (λ c. unfinished ((p.stop s).standing c)) u.cpus z c (search (in_machine, h.slots, arith)) in
          omega arith

  module _ (me : ℕ) where
    -- a CPU at home in no stop
    at_home : (stop' : Stop) (to : Option ℕ) → ((j : ℕ) → is_inside ((p.stop j).standing me) ≡ true → j ≡ s) → (is_inside (stop'.standing me) ≡ true →
        to ≡ Some s) →
        (j : ℕ) → is_inside ((put p.stop s stop' j).standing me) ≡ true → put p.inside me to me ≡ Some j
    at_home stop' to only here j i = search (put_same, at_test, arith)

    save : (to : Option ℕ) → SaveMe p me (put p.inside me to) p.irq p.readings
    save to = record { inside = λ c ne. put_other p.inside me to c ne; irq = λ c ne. refl; readings = λ c ne. refl }

    -- fetch_and of the roll, that found the own bit
    pub step_enters : (n : ℕ) → seat me ≡ Free → has (at (Slot s Roll)) me ≡ true → has n me ≡ false → ((c : ℕ) → c ≢ me → has n c ≡ has (at (Slot s Roll))
        c) →
        PresentShows u (moved p s (stands (p.stop s) me (Inside 0 0)) (put p.inside me (Some s)) p.irq p.readings) (put_word at (Slot s Roll) n)
        (put seat me (In s (p.stop s).work 0 0 Rests))
    step_enters n is found clears others = let stop' = stands (p.stop s) me (Inside 0 0) in
        moves u p at (put_word at (Slot s Roll) n) seat s me stop' (put p.inside me (Some s)) p.irq p.readings (In s (p.stop s).work 0 0 Rests) h
        (slot_put u.cpus p.stop at s Roll n stop' h.slots (enters_slot u.cpus (p.stop s) w (h.slots s) me n found clears others)) refl
        (search (put_other, arith))
        (save (Some s)) (search (put_same, at_test, quiet, arith))
        (at_home stop' (Some s) (λ j i. absurd (let bad : None ≡ Some j = sym (subst (RoleStands p me) is (h.stands me)) ∙ h.homes j me i in cc)) (λ _. refl))
        (h.irq me ∙ ap irq_of is)
        (λ on i. h.read me on (h.irq me ∙ ap irq_of is))
        (subst IsNoPatch (sym is) tt)
        (λ op kind. h.works s op kind)
      where
        quiet : (p.stop s).standing me ≡ Called → OpenShows u.cpus (p.stop s) w → duty_of (p.stop s).raising me ≡ Rests
        quiet called o = search (o.calm, not_raising, o.ack, arith)

    -- fetch_sub of todo
    pub step_completes : (a v : ℕ) → p.inside me ≡ Some s → IsAnswer ((p.stop s).standing me) a v → duty_of (p.stop s).raising me ≡ Rests →
        IsThrough (p.stop s) me a →
        irq_of (seat me) ≡ true → IsNoPatch (seat me) →
        PresentShows u (moved p s (completed (p.stop s) me a v (at (Slot s Todo))) (put p.inside me None) p.irq p.readings)
        (put_word at (Slot s Todo) (at (Slot s Todo) - 1)) (put seat me (cond (at (Slot s Todo) == 1) (Closes s) Free))
    step_completes a v in_ is turn through on mine = let found = at (Slot s Todo) in
        let stop' = completed (p.stop s) me a v found in
        let of = answer_of_it (p.stop s).phase a v ((p.stop s).standing me) is in
        let open_ = is_open_inside u.cpus (p.stop s) w (h.slots s) me ((p.stop s).standing me) refl of in
        let o = (h.slots s).shows open_ in
        moves u p at (put_word at (Slot s Todo) (found - 1)) seat s me stop' (put p.inside me None) p.irq p.readings (cond (found == 1) (Closes s) Free) h
        (slot_put u.cpus p.stop at s Todo (found - 1) stop' h.slots (completes_slot u.cpus (p.stop s) w (h.slots s) me a v is through)) refl
        (search (put_other, in_machine, arith))
        (save None)
        (now (found == 1) open_)
        (search (at_home, h.homes, put_same, arith))
        (h.irq me ∙ (on ∙ sym (irq_after (found == 1))))
        (λ o i. h.read me o (h.irq me ∙ on))
        mine
        (λ op kind. h.works s op kind)
      where
        irq_after : (b : Bool) → irq_of (cond b (Closes s) Free) ≡ true
        irq_after b = search arith

        now : (b : Bool) → (p.stop s).is_open ≡ true →
            RoleStands (moved p s (record (p.stop s) { standing = put (p.stop s).standing me (Completed a v); ending = cond b (Last me) (p.stop s).ending })
            (put p.inside me None) p.irq p.readings) me (cond b (Closes s) Free)
        now b op = search (put_same, at_test, arith)

    -- store of done by the last
    pub step_finishes : seat me ≡ Closes s →
        PresentShows u (moved p s (ended (p.stop s)) p.inside p.irq p.readings) (put_word at (Slot s Done) 1) (put seat me Free)
    step_finishes is = let st : RoleStands p me (Closes s) = subst (RoleStands p me) is (h.stands me) in
        moves u p at (put_word at (Slot s Done) 1) seat s me (ended (p.stop s)) p.inside p.irq p.readings Free h
        (slot_put u.cpus p.stop at s Done 1 (ended (p.stop s)) h.slots (finishes_slot u.cpus (p.stop s) w (h.slots s) me st.2)) refl
        (search arith)
        record { inside = λ c ne. refl; irq = λ c ne. refl; readings = λ c ne. refl }
        st.0
        (search (at_test, h.homes, arith))
        (h.irq me ∙ ap irq_of is)
        (λ on i. h.read me on (h.irq me ∙ ap irq_of is))
        (subst IsNoPatch (sym is) tt)
        (λ op kind. h.works s op kind)

    -- store of an answer that is not 0
    pub step_answers : (job : Work) (a l v : ℕ) → seat me ≡ In s job a l Rests → v ≢ 0 → (a ≡ EXIT) ⊎ ((p.stop s).phase ≡ 0) → IsNot me (p.stop s).raising →
        irq_of (seat me) ≡ true →
        PresentShows u (moved p s (stands (p.stop s) me (Answering a v)) p.inside p.irq p.readings) (put_word at (Slot s Result) v)
        (put seat me (Gives s job a v))
    step_answers job a l v is some through quiet on = let stop' = stands (p.stop s) me (Answering a v) in
        let st : RoleStands p me (In s job a l Rests) = subst (RoleStands p me) is (h.stands me) in
        moves u p at (put_word at (Slot s Result) v) seat s me stop' p.inside p.irq p.readings (Gives s job a v) h
        (slot_put u.cpus p.stop at s Result v stop' h.slots (answers_slot u.cpus (p.stop s) w (h.slots s) me a l v st.1 some (through, quiet))) refl
        (search (put_other, arith))
        record { inside = λ c ne. refl; irq = λ c ne. refl; readings = λ c ne. refl } (search (at_test, put_same, arith))
        (search (at_test, h.homes, arith))
        (h.irq me ∙ on)
        (λ o i. h.read me o (h.irq me ∙ on))
        (subst IsNoPatch (sym is) tt)
        (λ op kind. h.works s op kind)
