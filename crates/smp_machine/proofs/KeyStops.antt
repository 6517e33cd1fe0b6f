-- A patch by its source, out of its parts.
use Rattle.std.proofs.Common.{◌≡◌, ◌≢◌, ℕ, ℤ, Bool, true, false, Option, Some, None, List, [], ◌∷◌, ◌++◌, ◌==◌, ◌&&◌, cond, append_assoc}
use Rattle.std.proofs.Common.{refl, sym, ap, ◌∙◌, subst, eq-eqb}
use Rattle.smp_labels.specs.Keys.{change_of, change_word, is_on}
use Rattle.smp_mask.specs.Mask.{members}
use Rattle.smp_queue.specs.declared.handler.Heard.{Heard}
use Rattle.smp_stop_steps.specs.Labels.{reading_of, state_left}
use Rattle.smp_stop_steps.specs.Tells.{first_readings, is_patch}
use Rattle.smp_multi.specs.Answers.{IsWholeWord}
use Rattle.smp_multi.specs.Cpu.{TableValue, CpuValue, Inside, begins}
use Rattle.smp_multi.specs.Cpu.{gives_gate}
use Rattle.smp_multi.specs.Names.{OwnMove}
use Rattle.smp_stop_steps.specs.declared.known.OwnMove.TheVariants.{Took, Gave, Began, Collected, Found}
use Rattle.smp_machine.specs.Moves.{patch_after}
use Rattle.smp_multi.specs.Names.{Work, One, Patch, ReadKey}
use Rattle.smp_multi.specs.Nudges.{loads_count}
use Rattle.smp_multi.specs.declared.func.Called.{Called}
use Rattle.smp_machine.specs.declared.work_queue.Item.{Item}
use Rattle.smp_machine.specs.Keys.{state_of, IsPatchOf, KeyStands, TurnsKey}
use Rattle.smp_machine.specs.Own.{Own, own_of, with_gate, with_begun, with_collected, with_moves, with_put, note_all}
use Rattle.smp_machine.specs.MachineCpu.{MachineCpuValue}
use Rattle.smp_machine.specs.Stops.{item, with_stop, AreShown, HasCollected, HasStopped}
use Rattle.smp_machine.specs.Takes.{EntersFront}
use Rattle.smp_machine.specs.Works.{Works, ReadsAnew}
use Rattle.smp_machine.proofs.OwnAnswers.{own_still}
use Rattle.smp_machine.proofs.Served.{later_still}
use Rattle.smp_machine.proofs.Works.{works_as, works_both}
use Rattle.smp_machine.proofs.Stopping.{works_step, works_begin, works_give, told_more, moves_of_four, last_open, shown_at}

some_same : {A : Type 0} {a b : A} → Some a ≡ Some b → a ≡ b
some_same e = cc

-- the CPU has entered its own patch, and has left it: what it has read since is the key, where the change tells it
pub own_read : (t : TableValue) (old mid new : CpuValue) (front : Option Item) (slot : ℕ) (work : Work) → EntersFront t old mid front (Some slot)
    → old.pending ≡ Some work → work.kind ≢ One → slot ≡ old.number → ReadsAnew mid new
    → new.part.readings ≡ first_readings old.number old.number work
own_read t old mid new None slot work e pending several same read = absurd e
own_read t old mid new (Some x) slot work e pending several same read =
    let r = e.1.1 in
    let is : r.work ≡ work = some_same (sym (r.own same) ∙ pending) in
    let stop : Inside = record { slot = slot; work = work; acked = 0 } in
    let inside : mid.inside ≡ Some stop = ap (λ (c : CpuValue). c.inside) r.is
    ∙ ap (λ (w : Work). Some (record { slot = slot; work = w; acked = 0 })) is in
    let number : mid.number ≡ old.number = ap (λ (c : CpuValue). c.number) r.is in
    read stop inside several ∙ (λ i. first_readings (number i) (same i) work)

state_read : (k : ℕ) (on : Bool) → reading_of k (state_left (change_of (change_word (state_of on)))) ≡ ReadKey k on ∷ []
state_read k true = refl
state_read k false = refl

-- after a patch that turns a key
pub readings_are : (n : ℕ) (work : Work) (on : Bool) → work.kind ≡ Patch → work.arg ≡ change_word (state_of on)
    → first_readings n n work ≡ ReadKey work.func on ∷ []
readings_are n work on kind arg =
    ap (λ k. cond (is_patch k && n == n) (reading_of work.func (state_left (change_of work.arg))) []) kind
    ∙ (ap (λ b. cond b (reading_of work.func (state_left (change_of work.arg))) []) (eq-eqb n n refl)
    ∙ (ap (λ (a : ℕ). reading_of work.func (state_left (change_of a))) arg ∙ state_read work.func on))

-- moves before others
moves_before : (l before first rest : List OwnMove) → (l ++ before) ++ (first ++ rest) ≡ l ++ ((before ++ first) ++ rest)
moves_before l before first rest = append_assoc l before (first ++ rest) ∙ ap (λ (x : List OwnMove). l ++ x) (sym (append_assoc before first rest))

module _ {H F : Type 0} (hears : H → Heard → H → Type 0) (runs : F → Called → F → Type 0) where
  -- a patch on a CPU that holds the gate
  pub patch_stopped : {old m₁ m₂ m₃ m₄ new : MachineCpuValue} {h h₂ h₃ h₄ : H} {f f₂ f₃ f₄ : F} (work : Work) (u v : ℤ) → u ≡ v
      → old.stops.part.holds ≡ true → m₁ ≡ record old { stops = begins work old.stops }
      → Works hears runs m₁ h f m₂ h₂ f₂ (with_put (item m₁.stops.number work) (members work.mask) (own_of m₁))
      → AreShown (members work.mask) m₂.passes → Works hears runs m₂ h₂ f₂ m₃ h₃ f₃ (own_of m₂)
      → HasCollected hears runs m₃ h₃ f₃ m₄ h₄ f₄ v → new ≡ record m₄ { stops = gives_gate m₄.stops }
      → HasStopped hears runs (patch_after []) work old h f new h₄ f₄ u
  patch_stopped {old} {m₁} {m₂} {m₃} {m₄} {new} {h} {h₂} {h₃} {h₄} {f} {f₂} {f₃} {f₄} work u v same held e a shown b c g =
      let x : Item = item old.stops.number work in
      let put = λ (o : Own). with_put x (members work.mask) (with_moves (Began work ∷ []) (with_begun work o)) in
      let got = λ (o : Own). with_moves (Collected c.word ∷ []) (with_collected c.word o) in
      let gave = λ (o : Own). with_moves (Gave ∷ []) (with_gate false o) in
      let left = with_stop (patch_after []) old.stops.number work c.word (own_of old) in
      let number : m₁.stops.number ≡ old.stops.number = ap (λ (p : MachineCpuValue). p.stops.number) e in
      let two = works_both hears runs (λ (o : Own). with_moves (Began work ∷ []) (with_begun work o)) (with_put x (members work.mask))
      (works_begin hears runs old m₁ h f work e)
      (subst (λ (n : ℕ). Works hears runs m₁ h f m₂ h₂ f₂ (with_put (item n work) (members work.mask) (own_of m₁))) number a) in
      let three = works_both hears runs put (λ o. o) two b in
      let four = works_both hears runs put got three c.works in record {
        word = c.word;
        answer_is = same ∙ c.answer_is;
        whole = subst (λ (z : ℤ). IsWholeWord z c.word) (sym same) c.whole;
        works = works_as hears runs left
            (λ i. record left {
              moves = moves_of_four (own_of old).moves (Began work ∷ []) (Collected c.word) Gave i;
              noted = note_all (held i) (Some work) x (members work.mask) (own_of old).put (own_of old).noted;
            })
            (works_both hears runs (λ (o : Own). got (put o)) gave four (works_give hears runs m₄ new h₄ f₄ g));
        result = last_open g c.result;
        shown = shown_at m₂.passes new.passes refl (sym (ap (λ (p : MachineCpuValue). p.passes.number) g ∙ (c.works.passes_number ∙ b.passes_number)))
            (sym (ap (λ (p : MachineCpuValue). p.passes.put) g ∙ (ap (λ (o : Own). o.put) c.works.own_is ∙ ap (λ (o : Own). o.put) b.own_is)))
            (sym (ap (λ (p : MachineCpuValue). p.passes.noted) g ∙ (ap (λ (o : Own). o.noted) c.works.own_is ∙ ap (λ (o : Own). o.noted) b.own_is))) shown;
        outside = ap (λ (p : MachineCpuValue). p.stops.inside) g ∙ c.outside;
      }

  -- a load of a key's count
  pub works_found : (p new : MachineCpuValue) (h : H) (f : F) (k count : ℕ) → new ≡ record p { stops = loads_count k count p.stops }
      → Works hears runs p h f new h f (with_moves (Found k count ∷ []) (own_of p))
  works_found p new h f k count e =
      let s = loads_count k count p.stops in
      works_step hears runs p new h f s (with_moves (Found k count ∷ []) (own_of p)) e
      (later_still p.stops s refl refl refl refl refl refl (Found k count ∷ [], refl)) refl refl refl refl refl refl
      (own_still p.stops s refl refl refl refl (λ _ e _. e) refl)
      (λ i. record (own_of p) { moves = told_more p.stops.moves (Found k count ∷ []) i })

  -- a patch after a stretch with these moves, in which at most the gate was taken
  pub stopped_after : {old m new : MachineCpuValue} {h h₁ h' : H} {f f₁ f' : F} (held : Bool) (before first : List OwnMove) (work : Work) (v : ℤ)
      → Works hears runs old h f m h₁ f₁ (with_moves before (with_gate held (own_of old)))
      → HasStopped hears runs (patch_after first) work m h₁ f₁ new h' f' v
      → HasStopped hears runs (patch_after (before ++ first)) work old h f new h' f' v
  stopped_after {old} {m} {new} {h} {h₁} {h'} {f} {f₁} {f'} held before first work v a s =
      let left = with_stop (patch_after (before ++ first)) old.stops.number work s.word (own_of old) in record {
        word = s.word;
        answer_is = s.answer_is;
        whole = s.whole;
        works = works_as hears runs left
            (λ i. record left { moves = moves_before (own_of old).moves before first (Began work ∷ Collected s.word ∷ Gave ∷ []) i })
            (works_both hears runs (λ (o : Own). with_moves before (with_gate held o)) (with_stop (patch_after first) old.stops.number work s.word) a
            (subst (λ (n : ℕ). Works hears runs m h₁ f₁ new h' f' (with_stop (patch_after first) n work s.word (own_of m))) a.number_is s.works));
        result = s.result;
        shown = s.shown;
        outside = s.outside;
      }

  -- the gate was taken, and the key read
  pub read_at_gate : {old m₁ m₂ : MachineCpuValue} {h h₁ : H} {f f₁ : F} (k count : ℕ)
      → Works hears runs old h f m₁ h₁ f₁ (with_moves (Took ∷ []) (with_gate true (own_of old))) → m₂ ≡ record m₁ { stops = loads_count k count m₁.stops }
      → Works hears runs old h f m₂ h₁ f₁ (with_moves (Took ∷ Found k count ∷ []) (with_gate true (own_of old)))
  read_at_gate {old} {m₁} {m₂} {h} {h₁} {f} {f₁} k count a e =
      works_as hears runs (with_moves (Took ∷ Found k count ∷ []) (with_gate true (own_of old)))
      (λ i. record (with_gate true (own_of old)) { moves = append_assoc (own_of old).moves (Took ∷ []) (Found k count ∷ []) i })
      (works_both hears runs (λ (o : Own). with_moves (Took ∷ []) (with_gate true o)) (with_moves (Found k count ∷ [])) a
      (works_found m₁ m₂ h₁ f₁ k count e))

  -- it is so, and the gate is given up
  pub stands_so : {old m₁ new : MachineCpuValue} {h h₁ : H} {f f₁ : F} (k count : ℕ) (on : Bool) → is_on count ≡ on
      → Works hears runs old h f m₁ h₁ f₁ (with_moves (Took ∷ []) (with_gate true (own_of old)))
      → new ≡ record m₁ { stops = gives_gate (loads_count k count m₁.stops) } → KeyStands hears runs k on old h f new h₁ f₁
  stands_so {old} {m₁} {new} {h} {h₁} {f} {f₁} k count on same a e =
      let m₂ : MachineCpuValue = record m₁ { stops = loads_count k count m₁.stops } in record {
        count = count;
        same = same;
        works = works_as hears runs (with_moves (Took ∷ Found k count ∷ Gave ∷ []) (with_gate false (own_of old)))
            (λ i. record (with_gate false (own_of old)) { moves = append_assoc (own_of old).moves (Took ∷ Found k count ∷ []) (Gave ∷ []) i })
            (works_both hears runs (λ (o : Own). with_moves (Took ∷ Found k count ∷ []) (with_gate true o))
            (λ (o : Own). with_moves (Gave ∷ []) (with_gate false o)) (read_at_gate k count a refl) (works_give hears runs m₂ new h₁ f₁ e));
      }

  -- it is not, and is turned by a patch
  pub turns_key : {old m₁ m₂ new : MachineCpuValue} {h h₁ h' : H} {f f₁ f' : F} (t : TableValue) (k count : ℕ) (on : Bool) (work : Work) (v : ℤ)
      → is_on count ≢ on → IsPatchOf t k (state_of on) work
      → Works hears runs old h f m₁ h₁ f₁ (with_moves (Took ∷ []) (with_gate true (own_of old))) → m₂ ≡ record m₁ { stops = loads_count k count m₁.stops }
      → HasStopped hears runs (patch_after []) work m₂ h₁ f₁ new h' f' v → TurnsKey hears runs t k on old h f new h' f'
  turns_key t k count on work v other patch a e s = record {
    work = work;
    patch = patch;
    count = count;
    other = other;
    answer = v;
    stopped = stopped_after true (Took ∷ Found k count ∷ []) [] work v (read_at_gate k count a e) s;
  }
