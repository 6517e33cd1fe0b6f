-- What a step on an open stop leaves to the sources, to the past and to the keys that sources know.
use Rattle.std.proofs.Common.{◌≡◌, ◌≢◌, ℕ, ◌≤◌, Bool, true, ◌==◌, cond, sym, subst, refl, ap, ◌∙◌, Option, List, arith}
use Rattle.smp_words.proofs.Puts.{at_test, put_all}
use Rattle.smp_stop_steps.specs.{CountShows, put, put_word, Patching, Reading, StandsSet, HasPast, OnlyActiveAnswer, answer_now, answer_of, OwnsKey}
use Rattle.smp_stop_steps.specs.{PresentShows, StopRole, StopShows, Drafts, Source, SourceShows, AreClosing, IsCalling, Calling, Setup}
use Rattle.smp_stop_steps.specs.{StopCall, StopState, Ended, Standing, acked, is_inside, Field, Patch, Work, Gate, Key, Slot, Word, State.Present, Stop.Stop}
use Rattle.smp_stop_steps.proofs.State.Moves.{field_false}
use Rattle.smp_stop_steps.specs.Names.{RUN}

module _ (u : Setup) (gate : Option ℕ) (s : ℕ) where
  -- a source whose slot is as it was
  pub source_same : (stop : Stop) (word word' : Field → ℕ) → ((f : Field) → word' f ≡ word f) → (x : Source) → SourceShows u gate stop word s x →
      SourceShows u gate stop word' s x
  source_same stop word word' same (Drafts work k) h = search (h.stored, arith)
  source_same stop word word' same _ h = h

  -- a source whose stop is open, stays so, and has ended where it had
  pub source_open : (stop stop' : Stop) (word word' : Field → ℕ) → stop.is_open ≡ true → stop'.is_open ≡ true → stop'.work ≡ stop.work →
      (stop.ending ≡ Ended → stop'.ending ≡ Ended) →
      (x : Source) → SourceShows u gate stop word s x → SourceShows u gate stop' word' s x
  source_open stop stop' word word' was now same end x h = search (was, now, end, arith)

-- the past, where nothing begins, is answered or collected
pub past_same : (stop stop' : Stop) (begun : List Work) (collected : List ℕ) (answers : ℕ → List ℕ) → stop'.is_open ≡ stop.is_open →
    (stop.is_open ≡ true → stop'.work ≡ stop.work) →
    ((c : ℕ) → answer_now (stop'.standing c) ≡ answer_now (stop.standing c)) → OnlyActiveAnswer stop'.work (λ c. answer_of (stop'.standing c)) →
    HasPast stop begun collected answers → HasPast stop' begun collected answers
past_same stop stop' begun collected answers op work given active h = search (h.1.answers_are, given, stop'.is_open, work, active, arith)

-- what is now, with one stop and other columns changed
abbrev pub after : Present → ℕ → Stop → (ℕ → Option ℕ) → (ℕ → Bool) → (ℕ → List Reading) → Patching → Present
after n s stop inside irq readings patching = record { stop = put n.stop s stop; inside = inside; irq = irq; readings = readings; patching = patching }

-- a step that leaves an open stop open, with its work, and whose answers are as they were
pub record StaysOpen (old new : Stop) : Type 0 where
  pub was : old.is_open ≡ true
  pub now : new.is_open ≡ true
  pub work : new.work ≡ old.work
  pub end : old.ending ≡ Ended → new.ending ≡ Ended
  pub given : (c : ℕ) → answer_now (new.standing c) ≡ answer_now (old.standing c)
  pub active : OnlyActiveAnswer old.work (λ c. answer_of (old.standing c)) → OnlyActiveAnswer new.work (λ c. answer_of (new.standing c))

-- a step that brings no source inside, and no first CPU past phase 3
pub record IsEarly (first s : ℕ) (old new : Stop) : Type 0 where
  pub inside : is_inside (new.standing s) ≡ true → is_inside (old.standing s) ≡ true
  pub late : RUN ≤ acked (new.standing first) → RUN ≤ acked (old.standing first)

pub owns_kept : (first : ℕ) (n : Present) (key : ℕ → ℕ) (s : ℕ) (stop' : Stop) (inside' : ℕ → Option ℕ) (irq' : ℕ → Bool) (readings' : ℕ → List Reading)
    (patching' : Patching) →
    StaysOpen (n.stop s) stop' → IsEarly first s (n.stop s) stop' → ((j : ℕ) → OwnsKey first n key j) → (j : ℕ) →
    OwnsKey first (after n s stop' inside' irq' readings' patching') key j
owns_kept first n key s stop' inside' irq' readings' patching' stays early own j =
    at_test j s (λ b. let x = cond b stop' (n.stop j) in x.is_open ≡ true → x.work.kind ≡ Patch → is_inside (x.standing j) ≡ true →
    RUN ≤ acked (x.standing first) → StandsSet x.work (key x.work.func))
    (λ e op kind in_ late.
    let i = early.inside (subst (λ k. is_inside (stop'.standing k) ≡ true) e in_) in
    subst (λ (w : Work). StandsSet w (key w.func)) (sym stays.work) (own s stays.was (ap (λ (w : Work). w.kind) (sym stays.work) ∙ kind) i (early.late late)))
    (λ ne op kind in_ late. own j op kind in_ late)

-- the past, by the answers of each CPU
pub past_answers : (stop : Stop) (begun : List Work) (collected : List ℕ) (answers answers' : ℕ → List ℕ) → ((c : ℕ) → answers' c ≡ answers c) →
    HasPast stop begun collected answers → HasPast stop begun collected answers'
past_answers stop begun collected answers answers' same h = search (h.1.answers_are, arith)

module _ (u : Setup) (p : StopState) (at : Word → ℕ) (seat : ℕ → StopRole) (source : ℕ → Source) (h : StopShows u p at seat source) (s : ℕ) (stop' : Stop)
    (inside' : ℕ → Option ℕ) (irq' : ℕ → Bool) (readings' : ℕ → List Reading) (patching' : Patching) (at' : Word → ℕ) (seat' : ℕ → StopRole) where
  -- a step on an open stop that stays open
  pub open_step_with : (looks' : ℕ → List ℕ) (calls' : ℕ → List StopCall) (calling' : ℕ → Calling) (answers' : ℕ → ℕ → List ℕ) →
      (p.now.stop s).is_open ≡ true → stop'.is_open ≡ true → stop'.work ≡ (p.now.stop s).work → ((p.now.stop s).ending ≡ Ended → stop'.ending ≡ Ended) →
      at' Gate ≡ at Gate → ((k : ℕ) → at' (Key k) ≡ at (Key k)) → ((j : ℕ) → j ≢ s → (f : Field) → at' (Slot j f) ≡ at (Slot j f)) →
      ((j : ℕ) → HasPast (put p.now.stop s stop' j) (p.begun j) (p.collected j) (λ c. answers' c j)) →
      ((j : ℕ) → OwnsKey u.first (after p.now s stop' inside' irq' readings' patching') (λ k. at' (Key k)) j) →
      PresentShows u (after p.now s stop' inside' irq' readings' patching') at' seat' →
      ((c : ℕ) → IsCalling c (seat' c) (calling' c)) → AreClosing (after p.now s stop' inside' irq' readings' patching') seat' →
      StopShows u (record p {
        now = after p.now s stop' inside' irq' readings' patching';
        answers = answers';
        looks = looks';
        calls = calls';
        calling = calling';
      }) at' seat' source
  open_step_with looks' calls' calling' answers' was now work end gate keys slots past own present callings closing = record {
    setup = h.setup;
    present = present;
    gate = gate ∙ h.gate;
    callings = callings;
    closing = closing;
    sources = search (at_test, source_open, was, now, work, end, h.sources, source_same, arith);
    past = past;
    owns = own;
    counts = λ k. subst (CountShows u.cpus p.nudged p.patched k) (sym (keys k)) (h.counts k);
  }

  -- a step on an open stop that begins, answers and collects nothing
  pub open_step : (looks' : ℕ → List ℕ) (calls' : ℕ → List StopCall) (calling' : ℕ → Calling) → StaysOpen (p.now.stop s) stop' →
      at' Gate ≡ at Gate → ((k : ℕ) → at' (Key k) ≡ at (Key k)) → ((j : ℕ) → j ≢ s → (f : Field) → at' (Slot j f) ≡ at (Slot j f)) →
      ((j : ℕ) → OwnsKey u.first (after p.now s stop' inside' irq' readings' patching') (λ k. at' (Key k)) j) →
      PresentShows u (after p.now s stop' inside' irq' readings' patching') at' seat' →
      ((c : ℕ) → IsCalling c (seat' c) (calling' c)) → AreClosing (after p.now s stop' inside' irq' readings' patching') seat' →
      StopShows u (record p { now = after p.now s stop' inside' irq' readings' patching'; looks = looks'; calls = calls'; calling = calling' }) at' seat'
      source
  open_step looks' calls' calling' stays gate keys slots own present callings closing = open_step_with looks' calls' calling' p.answers stays.was stays.now
      stays.work stays.end gate keys slots
      (λ j. at_test j s (λ b. HasPast (cond b stop' (p.now.stop j)) (p.begun j) (p.collected j) (λ c. p.answers c j))
      (λ e. let P : ℕ → Type 0 = λ k. HasPast stop' (p.begun k) (p.collected k) (λ c. p.answers c k) in
      subst P (sym e) (past_same (p.now.stop s) stop' (p.begun s) (p.collected s) (λ c. p.answers c s) (stays.now ∙ sym stays.was) (λ _. stays.work)
      stays.given (stays.active (h.past s).1.active) (h.past s)))
      (λ ne. h.past j)) own present callings closing

-- the words of other slots, where one field of one slot was changed
pub other_slots : (at : Word → ℕ) (s : ℕ) (g : Field) (n : ℕ) (j : ℕ) → j ≢ s → (f : Field) → put_word at (Slot s g) n (Slot j f) ≡ at (Slot j f)
other_slots at s g n j ne f = search (at_test, field_false, arith)

-- a CPU that goes elsewhere inside a stop
pub record MovesInside (old new : Standing) : Type 0 where
  pub inside : is_inside new ≡ true → is_inside old ≡ true
  pub late : RUN ≤ acked new → RUN ≤ acked old
  pub given : answer_now new ≡ answer_now old

module _ (first s me : ℕ) (stop : Stop) (to : Standing) (m : MovesInside (stop.standing me) to) where
  pub moves_early : (stop' : Stop) → stop'.standing ≡ put stop.standing me to → IsEarly first s stop stop'
  moves_early stop' e = search (put_all, m.inside, m.late, arith)

  pub moves_given : (c : ℕ) → answer_now (put stop.standing me to c) ≡ answer_now (stop.standing c)
  moves_given = put_all (λ c x. answer_now x ≡ answer_now (stop.standing c)) stop.standing me to m.given (λ c ne. refl)

-- a put over a put at the same place
put_over : {A : Type 0} (b : Bool) (v w x : A) → cond b w (cond b v x) ≡ cond b w x
put_over {A} b v w x = search arith

pub put_twice : {A : Type 0} (f : ℕ → A) (i : ℕ) (v w : A) → put (put f i v) i w ≡ put f i w
put_twice {A} f i v w = λ k j. put_over (j == i) v w (f j) k
