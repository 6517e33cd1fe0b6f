-- The kinds of step of a source: the gate, the stores of begin, and the looks for the result.
use Rattle.std.proofs.Common.{◌≡◌, ◌≢◌, ℕ, ◌+◌, ◌<◌, Bool, true, false, eq-eqb, ◌==◌, cond, sym, subst, refl, ap, ◌∙◌, arith, Some, None, List, [], ◌∷◌, ◌++◌}
use Rattle.smp_words.proofs.{Puts.at_test, Puts.put_all, Puts.put_both, Puts.put_same, Puts.put_other, SameWords.one_place}
use Rattle.smp_words.specs.declared.field.Field.TheVariants.{Ack, Active, Arg, Done, Func, Kind, Mask, Result, Roll, State, Todo}
use Rattle.smp_words.specs.{Put.place_of, Put.same_field, Kinds.kind_at, Kinds.kind_word}
use Rattle.smp_stop_steps.specs.{HasCompleted, CountShows, put, put_word, unfinished, HasPast, answer_now, PresentShows, StopRole, Closes, StopShows, DoneShows}
use Rattle.smp_stop_steps.specs.{IsStored, begun_value, order, Collects, DraftShows, Drafts, IsDrafted, OwnerShows, Owns, Shut, Source, SourceShows, Setup, Act}
use Rattle.smp_stop_steps.specs.{StopState, Called, Ended, Ending, Last, Outside, Standing, answer_of, closed, is_inside, is_of, opened, drafted, drafts}
use Rattle.smp_stop_steps.specs.{stored_shut, told, Field, Kind as KindOf, Work, Gate, Key, Slot, Word, has, Stop.Stop}
use Rattle.smp_stop_steps.proofs.State.Entered.{step_collects, step_drafts, step_opens}
use Rattle.smp_stop_steps.proofs.Steps.Kept.{after, other_slots, past_same, source_same}
use Rattle.smp_stop_steps.proofs.{State.Gates.gate_free, Basics.Counts.sum_zero, State.Ends.all_outside, State.Ends.collects_slot, State.Owns.mask_is}
use Rattle.smp_stop_steps.proofs.{State.Pasts.active_outside, State.Pasts.past_collects, State.Pasts.past_opens, State.Raises.in_machine}

pub kind_back : (k : KindOf) → kind_at (kind_word k) ≡ k
kind_back k = search arith

-- one more store of begin tells one more number of the work
drafted_more : (cpus : ℕ) (f : Field) (k : ℕ) (now work : Work) → order f ≡ k → IsDrafted k now work →
    IsDrafted (k + 1) (drafted f (begun_value cpus work f) now) work
drafted_more cpus f k now work e d = search (kind_back, d.kind, d.mask, d.active, d.func, d.arg, arith)

not_roll : (f : Field) → order f < 10 → same_field f Roll true ≡ false
not_roll f l = search arith

-- a store but the last one drafts the work
shut_told : (p : StopState) (s : ℕ) (f : Field) (v : ℕ) → order f < 10 → stored_shut p s f v ≡ record p { now = drafts p.now s f v }
shut_told p s f v l = search arith

-- the field of a place among the stores of begin
field_of : ℕ → Field
field_of n = cond (n == 0) Kind (cond (n == 1) Mask (cond (n == 2) Active (cond (n == 3) Func (cond (n == 4) Arg (
    cond (n == 5) Result (cond (n == 6) Todo (cond (n == 7) Done (cond (n == 8) Ack (cond (n == 9) State Roll)))))))))

field_of-order : (f : Field) → field_of (order f) ≡ f
unfolding field_of
field_of-order f = search arith

one_order : (f g : Field) → order f ≡ order g → f ≡ g
one_order f g e = sym (field_of-order f) ∙ (ap field_of e ∙ field_of-order g)

field_itself : (f : Field) (b : Bool) → same_field f f b ≡ b
field_itself f b = ap (λ c. cond c b false) (eq-eqb (place_of f) (place_of f) refl)

stored_more : (cpus : ℕ) (at : Word → ℕ) (s : ℕ) (work : Work) (k : ℕ) (g : Field) → order g ≡ k → IsStored cpus (λ f. at (Slot s f)) work k →
    IsStored cpus (λ f. put_word at (Slot s g) (begun_value cpus work g) (Slot s f)) work (k + 1)
stored_more cpus at s work k g is h f l = search (at_test, one_order, field_itself, eq-eqb, one_place, arith)

pub work_ext : (x y : Work) → x.kind ≡ y.kind → x.mask ≡ y.mask → x.active ≡ y.active → x.func ≡ y.func → x.arg ≡ y.arg → x ≡ y
work_ext x y a b c d e = λ k. record { kind = a k; mask = b k; active = c k; func = d k; arg = e k }

module _ (u : Setup) (p : StopState) (at : Word → ℕ) (seat : ℕ → StopRole) (source : ℕ → Source) (h : StopShows u p at seat source) (me : ℕ) where
  abbrev w : Field → ℕ
  w f = at (Slot me f)

  -- a step of a source on its own slot, which is closed before it or after it
  source_step : (stop' : Stop) (begun' : ℕ → List Work) (collected' : ℕ → List ℕ) (at' : Word → ℕ) (next : Source) → at' Gate ≡ at Gate →
      ((j : ℕ) → j ≢ me → (f : Field) → at' (Slot j f) ≡ at (Slot j f)) → ((k : ℕ) → at' (Key k) ≡ at (Key k)) →
      SourceShows u p.gate stop' (λ f. at' (Slot me f)) me next → HasPast stop' (begun' me) (collected' me) (λ c. p.answers c me) →
      ((j : ℕ) → j ≢ me → begun' j ≡ p.begun j) → ((j : ℕ) → j ≢ me → collected' j ≡ p.collected j) →
      ((c : ℕ) → is_inside (stop'.standing c) ≡ true → ⊥) → ((c : ℕ) → stop'.is_open ≡ true → stop'.ending ≡ Last c → ⊥) →
      PresentShows u (after p.now me stop' p.now.inside p.now.irq p.now.readings p.now.patching) at' seat →
      StopShows u (record p { now = after p.now me stop' p.now.inside p.now.irq p.now.readings p.now.patching; begun = begun'; collected = collected' }) at'
      seat (put source me next)
  source_step stop' begun' collected' at' next gate slots keys here past begun collected nobody last present = record {
    setup = h.setup;
    present = present;
    gate = gate ∙ h.gate;
    callings = h.callings;
    closing = λ j c. at_test j me (λ b. let y = cond b stop' (p.now.stop j) in y.is_open ≡ true → y.ending ≡ Last c → (seat c ≡ Closes j) × HasCompleted
        (y.standing c))
        (λ e op l. absurd (last c op l)) (λ ne. h.closing j c);
    sources = search (put_both, source_same, h.sources, arith);
    past = λ j. at_test j me (λ b. HasPast (cond b stop' (p.now.stop j)) (begun' j) (collected' j) (λ c. p.answers c j))
        (λ e. let P : ℕ → Type 0 = λ k. HasPast stop' (begun' k) (collected' k) (λ c. p.answers c k) in subst P (sym e) past)
        (λ ne. let P : List Work → List ℕ → Type 0 = λ x y. HasPast (p.now.stop j) x y (λ c. p.answers c j) in
        subst (λ x. P x (collected' j)) (sym (begun j ne)) (subst (λ y. P (p.begun j) y) (sym (collected j ne)) (h.past j)));
    owns = search (at_test, h.owns, arith);
    counts = λ k. subst (CountShows u.cpus p.nudged p.patched k) (sym (keys k)) (h.counts k);
  }

  -- no stop but this source's is its own
  draft : (work : Work) (k : ℕ) → source me ≡ Drafts work k → DraftShows u p.gate (p.now.stop me) w me work k
  draft work k is = subst (SourceShows u p.gate (p.now.stop me) w me) is (h.sources me)

  outside_not : (x : Standing) → x ≡ Outside → is_inside x ≡ true → ⊥
  outside_not x e i = cc

  -- store of a field of a stop that is not yet open
  pub field_stored : (work : Work) (k : ℕ) (f : Field) (answer : ℕ) → source me ≡ Drafts work k → order f ≡ k → k < 10 →
      let v = begun_value u.cpus work f in
      StopShows u (told u p me Act.Store (Slot me f) None (Some v) answer) (put_word at (Slot me f) v) seat (put source me (Drafts work (k + 1)))
  field_stored work k f answer is place low = let d = draft work k is in
      let v = begun_value u.cpus work f in
      let fresh : order f < 10 = omega arith in
      let work' = drafted f v (p.now.stop me).work in
      let stop' : Stop = record (p.now.stop me) { work = work' } in
      let out = all_outside u.cpus (p.now.stop me) w (h.present.slots me) d.shut in
      let shown' = source_step stop' p.begun p.collected (put_word at (Slot me f) v) (Drafts work (k + 1)) refl (other_slots at me f v) (λ k. refl) record {
        shut = d.shut;
        holds = d.holds;
        is_work = d.is_work;
        stored = stored_more u.cpus at me work k f place d.stored;
        told = search (drafted_more, arith);
      } (past_same
      (p.now.stop me) stop' (p.begun me) (p.collected me) (λ c. p.answers c me) refl (λ op. absurd (apart (sym op ∙ d.shut))) (λ c. refl)
      (active_outside work' (p.now.stop me).standing out)
      (h.past me)) (λ
      j ne. refl) (λ j ne. refl) (λ c. outside_not ((p.now.stop me).standing c) (out c)) (λ c op l. apart (sym op ∙ d.shut)) (step_drafts u p.now at seat
      h.present me f v work' d.shut (not_roll f fresh)) in
      search (d.shut, shut_told p me f v fresh, shown', arith)
    where
      apart : true ≡ false → ⊥
      apart e = cc

  -- store of the roll: the stop is open
  pub roll_stored : (work : Work) (answer : ℕ) → source me ≡ Drafts work 10 →
      StopShows u (told u p me Act.Store (Slot me Roll) None (Some work.mask) answer) (put_word at (Slot me Roll) work.mask) seat (put source me (Owns work))
  roll_stored work answer is = let d = draft work 10 is in
      let at' = put_word at (Slot me Roll) work.mask in
      let same : (p.now.stop me).work ≡ work = search (work_ext, d.told.kind, d.told.mask, d.told.active, d.told.func, d.told.arg, arith) in
      let stop' = opened (p.now.stop me) work in
      let out = all_outside u.cpus (p.now.stop me) w (h.present.slots me) d.shut in
      let shown' = source_step stop' (put p.begun me (p.begun me ++ work ∷ [])) p.collected at' (Owns work) refl (other_slots at me Roll work.mask) (λ k.
      refl) record { is_open = refl; work_is = refl; is_work = d.is_work } (subst (λ l. HasPast stop' l (p.collected me) (λ c. p.answers c me)) (sym
      (put_same p.begun me (p.begun me ++ work ∷ []))) (
        (h.past me).0,
        past_opens (h.past me).0 (p.now.stop me) (p.begun me) (p.collected me) (λ c. p.answers c me) (h.past me).1 work d.shut out,
      )) (λ j ne. put_other p.begun me (p.begun me ++ work ∷ []) j ne) (λ j ne. refl) (λ c. called_not (has
      work.mask c)) (λ c op l. cc) (step_opens u p.now at seat h.present me work d.shut d.is_work d.stored) in
      search (d.shut, same, shown', arith)
    where
      called_not : (b : Bool) → is_inside (cond b Called Outside) ≡ true → ⊥
      called_not b e = search arith

  owner : (work : Work) → source me ≡ Owns work → OwnerShows u (p.now.stop me) work
  owner work is = subst (SourceShows u p.gate (p.now.stop me) w me) is (h.sources me)

  -- load of done, that found it set
  pub done_loaded : (work : Work) → source me ≡ Owns work → at (Slot me Done) ≡ 1 → StopShows u p at seat (put source me (Collects work))
  done_loaded work is found = search (put_all, owner, ends, h.present.slots, h.sources, arith)
    where
      ends : (e : Ending) → (p.now.stop me).ending ≡ e → DoneShows u.cpus (p.now.stop me).standing e (at (Slot me Done)) → (p.now.stop me).ending ≡ Ended
      ends e e' d = search arith

  -- load of the result, after that: collect
  pub result_loaded : (work : Work) (answer : ℕ) → source me ≡ Collects work →
      StopShows u (told u p me Act.Load (Slot me Result) (Some (at (Slot me Result))) None answer) at seat (put source me Shut)
  result_loaded work answer is =
      let o : OwnerShows u (p.now.stop me) work × ((p.now.stop me).ending ≡ Ended) = subst (SourceShows u p.gate (p.now.stop me) w me) is (h.sources me) in
      let d : DoneShows u.cpus (p.now.stop me).standing Ended (at (Slot me Done)) = search arith in
      let result = at (Slot me Result) in
      let stop' = closed (p.now.stop me) in
      source_step stop' p.begun (put p.collected me (p.collected me ++ result ∷ [])) at Shut refl (λ j ne f. refl) (λ k. refl) refl
      (subst (λ l. HasPast stop' (p.begun me) l (λ c. p.answers c me)) (sym (put_same p.collected me (p.collected me ++ result ∷ []))) (
        _,
        past_collects (h.past me).0 (p.now.stop me) (p.begun me) (p.collected me) (λ c. p.answers c me) (h.past me).1 result o.0.is_open
            (collects_slot u.cpus (p.now.stop me) w (h.present.slots me) o.0.is_open d.0).0
            (λ c. all ((p.now.stop me).standing c) (mask_is u p.now at seat h.present me c o.0.is_open)
            (λ of. sum_zero (λ c. unfinished ((p.now.stop me).standing c)) u.cpus d.1 c (in_machine u.cpus (p.now.stop me).phase c ((p.now.stop me).standing
            c) of ((h.present.slots me).keeps c)))),
      ))
      (λ j ne. refl) (λ j ne. put_other p.collected me (p.collected me ++ result ∷ []) j ne) (λ c e. cc) (λ c op l. cc)
      (step_collects u p.now at seat h.present me o.0.is_open d.0)
    where
      all : {b : Bool} (x : Standing) → is_of x ≡ b → (is_of x ≡ true → unfinished x ≡ 0) → answer_now x ≡ cond b (answer_of x ∷ []) []
      all {b} x e z = search arith

  -- compare-exchange of the gate, that won
  pub gate_taken : (answer : ℕ) → at Gate ≡ 0 → StopShows u (told u p me Act.Cas Gate (Some 0) (Some (me + 1)) answer) (put_word at Gate (me + 1)) seat source
  gate_taken answer free = search (h.sources, gate_free, arith)

  -- store of 0 to the gate by its holder, which begins no stop
  pub gate_opened : (answer : ℕ) → p.gate ≡ Some me → ((work : Work) (k : ℕ) → source me ≢ Drafts work k) →
      StopShows u (told u p me Act.Store Gate None (Some 0) answer) (put_word at Gate 0) seat source
  gate_opened answer holds idle = search (h.sources, arith)
