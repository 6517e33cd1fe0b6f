-- A stop, out of its parts.
use Rattle.std.proofs.Common.{◌≡◌, ◌⊎◌, ℕ, ℤ, Option, Bool, true, false, true≢false, ◌||◌}
use Rattle.std.proofs.Common.{List, [], ◌∷◌, ◌++◌, slice_index_or}
use Rattle.std.proofs.Common.{inl, inr, refl, sym, ap, ◌∙◌, subst, append_assoc}
use Rattle.std.proofs.lemmas.Bool.{cases_eq, ne_eqb}
use Rattle.std.proofs.lemmas.List.{append-nil, get_or-set_other}
use Rattle.std.proofs.lemmas.List.Elements.{filter-append}
use Rattle.smp_mask.specs.Mask.{members}
use Rattle.smp_queue.specs.declared.handler.Heard.{Heard}
use Rattle.smp_calls.specs.Queued.{is_in}
use Rattle.smp_calls.proofs.Round.{is_in-append}
use Rattle.smp_multi.specs.Answers.{IsWholeWord}
use Rattle.smp_multi.specs.Cpu.{CpuValue, begins, collects, takes_gate, gives_gate, misses_gate, looks_in_vain}
use Rattle.smp_stop_steps.specs.declared.known.OwnMove.TheVariants.{Busy, Took, Gave, Began, NotDone, Collected}
use Rattle.smp_machine.specs.Moves.{told, tells, short_stop, long_stop, stop_moves}
use Rattle.smp_machine.specs.declared.stop.Holds.{Holds}
use Rattle.smp_multi.specs.Names.{OwnMove, Work}
use Rattle.smp_multi.specs.Polls.{IsLastResult}
use Rattle.smp_multi.specs.declared.func.Called.{Called}
use Rattle.smp_machine.specs.declared.work_queue.Item.{Item}
use Rattle.smp_machine.specs.declared.work_queue.Knows.TheVariants.{Puts}
use Rattle.smp_machine.specs.declared.work_queue.PutNote.{PutNote}
use Rattle.smp_machine.specs.WorkQueue.{IsKnown}
use Rattle.smp_machine.specs.Own.{Own, own_of, with_gate, with_begun, with_put, with_collected, with_moves, put_one, put_all, note_all}
use Rattle.smp_machine.specs.OwnAnswers.{OwnAnswers}
use Rattle.smp_machine.specs.Served.{IsLater}
use Rattle.smp_machine.proofs.Looks.{hears_none}
use Rattle.smp_machine.proofs.OwnAnswers.{own_begun, own_collected, own_still}
use Rattle.smp_machine.specs.Passes.{PassesValue, PutIsShown, puts, note_of, total}
use Rattle.smp_machine.specs.MachineCpu.{MachineCpuValue}
use Rattle.smp_machine.specs.Stops.{item, with_queued, with_stop, AreShown, HasCollected, HasStopped}
use Rattle.smp_machine.specs.Works.{Works}
use Rattle.smp_machine.proofs.Served.{later_still, later_same, later_begun, later_collected}
use Rattle.smp_machine.proofs.Works.{works_none, works_still, works_as, works_both}

-- ---- a list of moves

pub told_more : (old more : List OwnMove) → told (old ++ more) ≡ told old ++ told more
told_more old more = filter-append tells old more

-- of moves that tell nothing
told_same : (old more : List OwnMove) → told more ≡ [] → told (old ++ more) ≡ told old
told_same old more none = told_more old more ∙ (ap (λ (l : List OwnMove). told old ++ l) none ∙ append-nil (told old))

pub moves_of_four : (l xs : List OwnMove) (a b : OwnMove) → ((l ++ xs) ++ a ∷ []) ++ b ∷ [] ≡ l ++ (xs ++ a ∷ b ∷ [])
moves_of_four l xs a b = append_assoc (l ++ xs) (a ∷ []) (b ∷ []) ∙ append_assoc l xs (a ∷ b ∷ [])

-- ---- a stop and its parts

pub put_all-append : (x : Item) (xs ys : List ℕ) (put : List (List Item)) → put_all x (xs ++ ys) put ≡ put_all x ys (put_all x xs put)
put_all-append x [] ys put = refl
put_all-append x (cpu ∷ xs) ys put = put_all-append x xs ys (put_one x cpu put)

pub note_all-append : (gate : Bool) (stop : Option Work) (x : Item) (xs ys : List ℕ) (put : List (List Item)) (noted : List (List PutNote))
    → note_all gate stop x (xs ++ ys) put noted ≡ note_all gate stop x ys (put_all x xs put) (note_all gate stop x xs put noted)
note_all-append gate stop x [] ys put noted = refl
note_all-append gate stop x (cpu ∷ xs) ys put noted =
    note_all-append gate stop x xs ys (put_one x cpu put) (put_one (record { gate = gate; stop = stop; before = total put }) cpu noted)

-- a try of the gate that is not made, or is in vain, enters no stop
pub tried_inside : {p new : MachineCpuValue} → (new ≡ p) ⊎ (new ≡ record p { stops = misses_gate p.stops }) → new.stops.inside ≡ p.stops.inside
tried_inside (inl e) = ap (λ (x : MachineCpuValue). x.stops.inside) e
tried_inside (inr e) = ap (λ (x : MachineCpuValue). x.stops.inside) e

module _ {H F : Type 0} (hears : H → Heard → H → Type 0) (runs : F → Called → F → Type 0) where
  -- one step of the own stop: what it makes of the own part is this
  pub works_step : (p new : MachineCpuValue) (h : H) (f : F) (s : CpuValue) (own : Own) → new ≡ record p { stops = s } → IsLater p.stops s
      → s.part.calls ≡ p.stops.part.calls → s.part.answers ≡ p.stops.part.answers → s.inside ≡ p.stops.inside
      → s.attempts ≡ p.stops.attempts → s.part.looks ≡ p.stops.part.looks → s.irq ≡ p.stops.irq → OwnAnswers p.stops s
      → own_of (record p { stops = s }) ≡ own → Works hears runs p h f new h f own
  works_step p new h f s own e later calls answers inside attempts looks irq mine is =
      subst (λ (x : MachineCpuValue). Works hears runs p h f x h f own) (sym e)
      (works_as hears runs own is (works_still hears runs p (record p { stops = s }) h f refl later calls answers inside attempts refl refl refl mine
      (hears_none p (record p { stops = s }) looks irq refl refl)))

  pub works_take : (p new : MachineCpuValue) (h : H) (f : F) → new ≡ record p { stops = takes_gate p.stops }
      → Works hears runs p h f new h f (with_moves (Took ∷ []) (with_gate true (own_of p)))
  works_take p new h f e =
      let s = takes_gate p.stops in
      works_step p new h f s (with_moves (Took ∷ []) (with_gate true (own_of p))) e
      (later_still p.stops s refl refl refl refl refl refl (Took ∷ [], refl)) refl refl refl refl refl refl (own_still p.stops s refl refl refl refl
      (λ _ e _. e) refl)
      (λ i. record (with_gate true (own_of p)) { moves = told_more p.stops.moves (Took ∷ []) i })

  -- a try of the gate, or a look at done, in vain
  pub works_missed : (p new : MachineCpuValue) (h : H) (f : F) → new ≡ record p { stops = misses_gate p.stops } → Works hears runs p h f new h f (own_of p)
  works_missed p new h f e =
      let s = misses_gate p.stops in
      works_step p new h f s (own_of p) e (later_still p.stops s refl refl refl refl refl refl (Busy ∷ [], refl)) refl refl refl refl refl refl
      (own_still p.stops s refl refl refl refl (λ _ e _. e) refl)
      (λ i. record (own_of p) { moves = told_same p.stops.moves (Busy ∷ []) refl i })

  -- a try of the gate that is not made, or is in vain
  pub works_tried : (p new : MachineCpuValue) (h : H) (f : F) → (new ≡ p) ⊎ (new ≡ record p { stops = misses_gate p.stops })
      → Works hears runs p h f new h f (own_of p)
  works_tried p new h f (inl e) = subst (λ (x : MachineCpuValue). Works hears runs p h f x h f (own_of p)) (sym e) (works_none hears runs p h f)
  works_tried p new h f (inr e) = works_missed p new h f e

  pub works_looked : (p new : MachineCpuValue) (h : H) (f : F) → new ≡ record p { stops = looks_in_vain p.stops } → Works hears runs p h f new h f (own_of p)
  works_looked p new h f e =
      let s = looks_in_vain p.stops in
      works_step p new h f s (own_of p) e (later_still p.stops s refl refl refl refl refl refl (NotDone ∷ [], refl)) refl refl refl refl refl refl
      (own_still p.stops s refl refl refl refl (λ _ e _. e) refl)
      (λ i. record (own_of p) { moves = told_same p.stops.moves (NotDone ∷ []) refl i })

  pub works_give : (p new : MachineCpuValue) (h : H) (f : F) → new ≡ record p { stops = gives_gate p.stops }
      → Works hears runs p h f new h f (with_moves (Gave ∷ []) (with_gate false (own_of p)))
  works_give p new h f e =
      let s = gives_gate p.stops in
      works_step p new h f s (with_moves (Gave ∷ []) (with_gate false (own_of p))) e
      (later_still p.stops s refl refl refl refl refl refl (Gave ∷ [], refl)) refl refl refl refl refl refl (own_still p.stops s refl refl refl refl
      (λ _ e _. e) refl)
      (λ i. record (with_gate false (own_of p)) { moves = told_more p.stops.moves (Gave ∷ []) i })

  pub works_begin : (p new : MachineCpuValue) (h : H) (f : F) (work : Work) → new ≡ record p { stops = begins work p.stops }
      → Works hears runs p h f new h f (with_moves (Began work ∷ []) (with_begun work (own_of p)))
  works_begin p new h f work e =
      let s = begins work p.stops in
      works_step p new h f s (with_moves (Began work ∷ []) (with_begun work (own_of p))) e
      (later_begun p.stops s (work ∷ []) refl refl refl refl refl refl (Began work ∷ [], refl)) refl refl refl refl refl refl
      (own_begun p.stops s work refl refl refl refl refl refl)
      (λ i. record (with_begun work (own_of p)) { moves = told_more p.stops.moves (Began work ∷ []) i })

  pub works_collect : (p new : MachineCpuValue) (h : H) (f : F) (word : ℕ) → new ≡ record p { stops = collects word p.stops }
      → Works hears runs p h f new h f (with_moves (Collected word ∷ []) (with_collected word (own_of p)))
  works_collect p new h f word e =
      let s = collects word p.stops in
      works_step p new h f s (with_moves (Collected word ∷ []) (with_collected word (own_of p))) e
      (later_collected p.stops s (word ∷ []) refl refl refl refl refl refl (Collected word ∷ [], refl)) refl refl refl refl refl refl
      (own_collected p.stops s refl refl refl refl refl refl)
      (λ i. record (with_collected word (own_of p)) { moves = told_more p.stops.moves (Collected word ∷ []) i })

  pub works_put : (p new : MachineCpuValue) (h : H) (f : F) (cpu : ℕ) (x : Item) → new ≡ record p { passes = puts cpu x (note_of p.stops p.passes) p.passes }
      → Works hears runs p h f new h f (with_put x (cpu ∷ []) (own_of p))
  works_put p new h f cpu x e =
      subst (λ (y : MachineCpuValue). Works hears runs p h f y h f (with_put x (cpu ∷ []) (own_of p))) (sym e)
      (works_still hears runs p (record p { passes = puts cpu x (note_of p.stops p.passes) p.passes }) h f refl (later_same p.stops) refl refl refl refl refl
      refl refl
      (own_still p.stops p.stops refl refl refl refl (λ _ e _. e) refl)
      (hears_none p (record p { passes = puts cpu x (note_of p.stops p.passes) p.passes }) refl refl refl refl))

  -- after a stretch in which the CPU has made none
  pub works_after : {old mid new : MachineCpuValue} {h h₁ h₂ : H} {f f₁ f₂ : F} (g : Own → Own) → Works hears runs old h f mid h₁ f₁ (own_of old)
      → Works hears runs mid h₁ f₁ new h₂ f₂ (g (own_of mid)) → Works hears runs old h f new h₂ f₂ (g (own_of old))
  works_after g a b = works_both hears runs (λ o. o) g a b

  -- one queue more
  pub works_more : {old mid new : MachineCpuValue} {h h₁ h₂ : H} {f f₁ f₂ : F} (work : Work) (xs : List ℕ) (cpu : ℕ)
      → Works hears runs old h f mid h₁ f₁ (with_put (item old.stops.number work) xs (own_of old))
      → Works hears runs mid h₁ f₁ new h₂ f₂ (with_put (item mid.stops.number work) (cpu ∷ []) (own_of mid))
      → Works hears runs old h f new h₂ f₂ (with_put (item old.stops.number work) (xs ++ cpu ∷ []) (own_of old))
  works_more {old} {mid} {new} {h} {h₁} {h₂} {f} {f₁} {f₂} work xs cpu a b =
      let x : Item = item old.stops.number work in
      let same = subst (λ (n : ℕ). Works hears runs mid h₁ f₁ new h₂ f₂ (with_put (item n work) (cpu ∷ []) (own_of mid))) a.number_is b in
      let o : Own = own_of old in
      works_as hears runs (with_put x (xs ++ cpu ∷ []) o)
      (λ i. record o {
        put = sym (put_all-append x xs (cpu ∷ []) o.put) i;
        noted = sym (note_all-append o.gate o.pending x xs (cpu ∷ []) o.put o.noted) i;
      })
      (works_both hears runs (with_put x xs) (with_put x (cpu ∷ [])) a same)

  pub works_all : {old new : MachineCpuValue} {h h' : H} {f f' : F} (x : Item) (xs ys : List ℕ) → xs ≡ ys
      → Works hears runs old h f new h' f' (with_put x xs (own_of old)) → Works hears runs old h f new h' f' (with_put x ys (own_of old))
  works_all {old} x xs ys e w = works_as hears runs (with_put x ys (own_of old)) (ap (λ (l : List ℕ). with_put x l (own_of old)) e) w

  -- a stop until its works are queued
  pub stop_queued : {old m₁ m₂ m₃ : MachineCpuValue} {h h₁ h₃ : H} {f f₁ f₃ : F} (work : Work)
      → Works hears runs old h f m₁ h₁ f₁ (with_moves (Took ∷ []) (with_gate true (own_of old)))
      → m₂ ≡ record m₁ { stops = begins work m₁.stops }
      → Works hears runs m₂ h₁ f₁ m₃ h₃ f₃ (with_put (item m₂.stops.number work) (members work.mask) (own_of m₂))
      → Works hears runs old h f m₃ h₃ f₃ (with_queued old.stops.number work (own_of old))
  stop_queued {old} {m₁} {m₂} {m₃} {h} {h₁} {h₃} {f} {f₁} {f₃} work a e b =
      let number : m₂.stops.number ≡ old.stops.number = ap (λ (p : MachineCpuValue). p.stops.number) e ∙ a.number_is in
      let took = λ (o : Own). with_moves (Took ∷ []) (with_gate true o) in
      let began = λ (o : Own). with_moves (Began work ∷ []) (with_begun work o) in
      let two = works_both hears runs took began a (works_begin m₁ m₂ h₁ f₁ work e) in
      works_as hears runs (with_queued old.stops.number work (own_of old))
      (λ i. record (with_queued old.stops.number work (own_of old)) {
        moves = append_assoc (own_of old).moves (Took ∷ []) (Began work ∷ []) i;
      })
      (works_both hears runs (λ o. began (took o)) (with_put (item old.stops.number work) (members work.mask)) two
      (subst (λ (n : ℕ). Works hears runs m₂ h₁ f₁ m₃ h₃ f₃ (with_put (item n work) (members work.mask) (own_of m₂))) number b))

-- a result stays the last one once the gate is given up
last_given : (c : CpuValue) (word : ℕ) → IsLastResult c word → IsLastResult (gives_gate c) word
last_given c word r = record {
  work = r.work;
  answer = r.answer;
  works = r.works;
  results = r.results;
  begun = r.begun;
  collected = r.collected;
  is_result = r.is_result;
  active = r.active;
  given = record {
    stops = r.given.stops;
    at = r.given.at;
    seat = r.given.seat;
    source = r.given.source;
    shown = r.given.shown;
    laws = r.given.laws;
    begun = r.given.begun;
    collected = r.given.collected;
    closed = r.given.closed;
    given = r.given.given;
  };
  own = r.own;
}

pub last_open : {p new : MachineCpuValue} {word : ℕ} → new ≡ record p { stops = gives_gate p.stops } → IsLastResult p.stops word → IsLastResult new.stops word
last_open {p} {new} {word} e r = subst (λ (q : MachineCpuValue). IsLastResult q.stops word) (sym e) (last_given p.stops word r)

-- the law of the queues, over those that were put to
or_left : (b : Bool) → (b || (false || false)) ≡ true → b ≡ true
or_left true e = refl
or_left false e = e

pub shown_none : (p : PassesValue) → AreShown [] p
shown_none p c h = absurd (true≢false (sym h))

-- what is known of a pass, as far as it was not put to
known_at : {n m : ℕ} {l k : List Item} {a b : List PutNote} → n ≡ m → l ≡ k → a ≡ b → IsKnown (Puts n l a) → IsKnown (Puts m k b)
known_at e f g = subst IsKnown (λ i. Puts (e i) (f i) (g i))

pub shown_more : (x : Item) (note : PutNote) (xs : List ℕ) (cpu : ℕ) (p q : PassesValue) → q.number ≡ p.number → q.put ≡ put_one x cpu p.put
    → q.noted ≡ put_one note cpu p.noted → AreShown xs p → PutIsShown q cpu → AreShown (xs ++ cpu ∷ []) q
shown_more x note xs cpu p q number put noted shown here c h = elim (cases_eq c cpu) [
  | inl same ↦ subst (PutIsShown q) (sym same) here
  | inr apart ↦
      let there : is_in c xs ≡ true = or_left (is_in c xs) (subst (λ (b : Bool). (is_in c xs || (b || false)) ≡ true) (ne_eqb cpu c (λ k. apart (sym k)))
      (sym (is_in-append c xs (cpu ∷ [])) ∙ h)) in
      known_at (sym number)
      (sym (ap (λ (l : List (List Item)). slice_index_or l c []) put ∙ get_or-set_other p.put cpu c (slice_index_or p.put cpu [] ++ x ∷ []) [] apart))
      (sym (ap (λ (l : List (List PutNote)). slice_index_or l c []) noted ∙ get_or-set_other p.noted cpu c
      (slice_index_or p.noted cpu [] ++ note ∷ []) [] apart))
      (shown c there)
]

pub shown_at : {xs ys : List ℕ} (p q : PassesValue) → xs ≡ ys → p.number ≡ q.number → p.put ≡ q.put → p.noted ≡ q.noted → AreShown xs p → AreShown ys q
shown_at {xs} {ys} p q e n put noted shown c h =
    known_at n (ap (λ (l : List (List Item)). slice_index_or l c []) put) (ap (λ (l : List (List PutNote)). slice_index_or l c []) noted)
    (shown c (ap (is_in c) e ∙ h))

module _ {H F : Type 0} (hears : H → Heard → H → Type 0) (runs : F → Called → F → Type 0) where
  -- a stop that gives the gate up once it is complete
  pub stop_long : {old m₃ m₄ new : MachineCpuValue} {h h₃ h₄ : H} {f f₃ f₄ : F} (work : Work) (u v : ℤ) → u ≡ v
      → Works hears runs old h f m₃ h₃ f₃ (with_queued old.stops.number work (own_of old))
      → AreShown (members work.mask) m₃.passes → HasCollected hears runs m₃ h₃ f₃ m₄ h₄ f₄ v
      → new ≡ record m₄ { stops = gives_gate m₄.stops } → HasStopped hears runs long_stop work old h f new h₄ f₄ u
  stop_long {old} {m₃} {m₄} {new} {h} {h₃} {h₄} {f} {f₃} {f₄} work u v same a shown c e =
      let put = with_queued old.stops.number work in
      let got = λ (o : Own). with_moves (Collected c.word ∷ []) (with_collected c.word o) in
      let gave = λ (o : Own). with_moves (Gave ∷ []) (with_gate false o) in
      let left = with_stop long_stop old.stops.number work c.word (own_of old) in
      let three = works_both hears runs put got a c.works in record {
        word = c.word;
        answer_is = same ∙ c.answer_is;
        whole = subst (λ (z : ℤ). IsWholeWord z c.word) (sym same) c.whole;
        works = works_as hears runs left
            (λ i. record left { moves = moves_of_four (own_of old).moves (Took ∷ Began work ∷ []) (Collected c.word) Gave i })
            (works_both hears runs (λ (o : Own). got (put o)) gave three (works_give hears runs m₄ new h₄ f₄ e));
        result = last_open e c.result;
        shown = shown_at m₃.passes new.passes refl (sym (ap (λ (p : MachineCpuValue). p.passes.number) e ∙ c.works.passes_number))
            (sym (ap (λ (p : MachineCpuValue). p.passes.put) e ∙ ap (λ (o : Own). o.put) c.works.own_is))
            (sym (ap (λ (p : MachineCpuValue). p.passes.noted) e ∙ ap (λ (o : Own). o.noted) c.works.own_is)) shown;
        outside = ap (λ (p : MachineCpuValue). p.stops.inside) e ∙ c.outside;
      }

  -- a stop that gives it up once its works are queued
  pub stop_short : {old m₃ m₄ new : MachineCpuValue} {h h₃ h₅ : H} {f f₃ f₅ : F} (work : Work) (u v : ℤ) → u ≡ v
      → Works hears runs old h f m₃ h₃ f₃ (with_queued old.stops.number work (own_of old))
      → AreShown (members work.mask) m₃.passes → m₄ ≡ record m₃ { stops = gives_gate m₃.stops }
      → HasCollected hears runs m₄ h₃ f₃ new h₅ f₅ v → HasStopped hears runs short_stop work old h f new h₅ f₅ u
  stop_short {old} {m₃} {m₄} {new} {h} {h₃} {h₅} {f} {f₃} {f₅} work u v same a shown e c =
      let put = with_queued old.stops.number work in
      let gave = λ (o : Own). with_moves (Gave ∷ []) (with_gate false o) in
      let got = λ (o : Own). with_moves (Collected c.word ∷ []) (with_collected c.word o) in
      let left = with_stop short_stop old.stops.number work c.word (own_of old) in
      let three = works_both hears runs put gave a (works_give hears runs m₃ m₄ h₃ f₃ e) in record {
        word = c.word;
        answer_is = same ∙ c.answer_is;
        whole = subst (λ (z : ℤ). IsWholeWord z c.word) (sym same) c.whole;
        works = works_as hears runs left
            (λ i. record left { moves = moves_of_four (own_of old).moves (Took ∷ Began work ∷ []) Gave (Collected c.word) i })
            (works_both hears runs (λ (o : Own). gave (put o)) got three c.works);
        result = c.result;
        shown = shown_at m₃.passes new.passes refl (sym (c.works.passes_number ∙ ap (λ (p : MachineCpuValue). p.passes.number) e))
            (sym (ap (λ (o : Own). o.put) c.works.own_is ∙ ap (λ (p : MachineCpuValue). p.passes.put) e))
            (sym (ap (λ (o : Own). o.noted) c.works.own_is ∙ ap (λ (p : MachineCpuValue). p.passes.noted) e)) shown;
        outside = c.outside;
      }

  -- the same, by how long the gate was held
  pub stop_as : {old new : MachineCpuValue} {h h' : H} {f f' : F} {work : Work} {v : ℤ} {holds asked : Holds} → asked ≡ holds
      → HasStopped hears runs (stop_moves holds) work old h f new h' f' v → HasStopped hears runs (stop_moves asked) work old h f new h' f' v
  stop_as {old} {new} {h} {h'} {f} {f'} {work} {v} e =
      subst (λ (x : Holds). HasStopped hears runs (stop_moves x) work old h f new h' f' v) (sym e)

  -- the same stop, as callers see its CPU and its answer
  pub stop_seen : {old seen new : MachineCpuValue} {h h' : H} {f f' : F} {moves : Work → ℕ → List OwnMove} {work : Work} (u v : ℤ)
      → old ≡ seen → u ≡ v → HasStopped hears runs moves work old h f new h' f' v → HasStopped hears runs moves work seen h f new h' f' u
  stop_seen {old} {seen} {new} {h} {h'} {f} {f'} {moves} {work} u v e same s =
      subst (λ (p : MachineCpuValue). HasStopped hears runs moves work p h f new h' f' u) e
      (subst (λ (x : ℤ). HasStopped hears runs moves work old h f new h' f' x) (sym same) s)
