-- A change of a key's count by one, out of its parts.
use Rattle.std.specs.List.{AllByRecursion}
use Rattle.std.proofs.Common.{◌≡◌, inl, inr, ℕ, ◌+◌, ◌*◌, ℤ, pos, Bool, true, false, true≢false, None, Result, Ok, Err, List, [], ◌∷◌, ◌++◌, map}
use Rattle.std.proofs.Common.{append_assoc, arith, length, length-append, refl, sym, ap, ◌∙◌, subst}
use Rattle.std.proofs.lemmas.List.{append-nil, map-append}
use Rattle.smp_labels.specs.Keys.{edge_of, is_on}
use Rattle.smp_mask.specs.declared.error.SmpError.{SmpError}
use Rattle.smp_mask.specs.declared.error.SmpError.TheVariants as error
use Rattle.smp_queue.specs.declared.handler.Heard.{Heard}
use Rattle.smp_stop_steps.specs.declared.known.OwnMove.TheVariants as move
use Rattle.smp_stop_steps.specs.declared.known.OwnMove.TheVariants.{Took, Gave, Found}
use Rattle.smp_multi.specs.Cpu.{TableValue, CpuValue, gives_gate}
use Rattle.smp_multi.specs.Names.{OwnMove, Reading, ReadKey}
use Rattle.smp_multi.specs.Nudges.{turn_at, edge_at, end_of, StaysOn, nudged, loads_count, loses_key, NudgeAnswers}
use Rattle.smp_multi.specs.Laws.{FindsCount}
use Rattle.smp_multi.specs.Reads.{HasKey}
use Rattle.smp_multi.specs.declared.func.Called.{Called}
use Rattle.smp_multi.specs.declared.nudge.Nudge.{Nudge}
use Rattle.smp_multi.specs.declared.nudge.Nudge.TheVariants.{Done, Lost, Stop}
use Rattle.smp_machine.specs.Counts.{step_of, with_nudge, tries_all, Loads, Nudges, Looking, PatchesByOne, Patches, CountsBy, Counts, CountsOr}
use Rattle.smp_machine.specs.Keys.{MayChange}
use Rattle.smp_machine.specs.Moves.{lost_tries, Looks, LooksFrom, LooksUpTo, gave_if, told}
use Rattle.smp_machine.specs.Own.{Own, own_of, with_gate, with_moves}
use Rattle.smp_machine.specs.MachineCpu.{MachineCpuValue}
use Rattle.smp_machine.specs.Served.{IsBeginning}
use Rattle.smp_machine.specs.Works.{Works}
use Rattle.smp_machine.proofs.OwnAnswers.{own_still}
use Rattle.smp_machine.proofs.Served.{later_still, own_after}
use Rattle.smp_machine.proofs.Works.{works_as, works_both}
use Rattle.smp_machine.proofs.Stopping.{works_step, works_give, told_more, moves_of_four}
use Rattle.smp_machine.proofs.KeyStops.{stopped_after}

-- ---- the loop that tries

abbrev key_read : ℕ → ℕ → Reading
key_read k count = ReadKey k (is_on count)

all_more : {A : Type 0} (P : A → Type 0) (xs : List A) (x : A) → AllByRecursion P xs → P x → AllByRecursion P (xs ++ x ∷ [])
all_more P [] x all one = (one, tt)
all_more P (y ∷ ys) x all one = (all.0, all_more P ys x all.1 one)

pub tries_none : (k : ℕ) (p : MachineCpuValue) → p ≡ record p { stops = tries_all k [] p.stops }
tries_none k p = λ i. record p {
  stops = record (p.stops) {
    part = record (p.stops.part) { readings = sym (append-nil p.stops.part.readings) i };
    moves = sym (append-nil p.stops.moves) i;
    steps = (let none : p.stops.steps ≡ p.stops.steps + 2 * 0 = omega arith in none) i;
  };
}

lost_more : (k : ℕ) (lost : List ℕ) (count : ℕ) → lost_tries k (lost ++ count ∷ []) ≡ lost_tries k lost ++ Found k count ∷ move.Lost k ∷ []
lost_more k [] count = refl
lost_more k (x ∷ xs) count = ap (λ (l : List OwnMove). Found k x ∷ move.Lost k ∷ l) (lost_more k xs count)

-- one try more
tries_more : (k : ℕ) (lost : List ℕ) (count : ℕ) (c : CpuValue) → loses_key k (loads_count k count (tries_all k lost c)) ≡ tries_all k (lost ++ count ∷ []) c
tries_more k lost count c =
    let read : (c.part.readings ++ map (key_read k) lost) ++ key_read k count ∷ [] ≡ c.part.readings ++ map (key_read k) (lost ++ count ∷ []) =
    append_assoc c.part.readings (map (key_read k) lost) (key_read k count ∷ [])
    ∙ ap (λ (l : List Reading). c.part.readings ++ l) (sym (map-append (key_read k) lost (count ∷ []))) in
    let moved : ((c.moves ++ lost_tries k lost) ++ Found k count ∷ []) ++ move.Lost k ∷ [] ≡ c.moves ++ lost_tries k (lost ++ count ∷ []) =
    moves_of_four c.moves (lost_tries k lost) (Found k count) (move.Lost k)
    ∙ ap (λ (l : List OwnMove). c.moves ++ l) (sym (lost_more k lost count)) in
    let longer = length-append lost (count ∷ []) in
    let made : c.steps + 2 * length lost + 1 + 1 ≡ c.steps + 2 * length (lost ++ count ∷ []) = omega arith in
    λ i. record c { part = record (c.part) { readings = read i }; moves = moved i; steps = made i }

pub place_more : (k : ℕ) (lost : List ℕ) (count : ℕ) (old mid new : MachineCpuValue) → mid ≡ record old { stops = tries_all k lost old.stops }
    → new ≡ record mid { stops = loses_key k (loads_count k count mid.stops) } → new ≡ record old { stops = tries_all k (lost ++ count ∷ []) old.stops }
place_more k lost count old mid new e f =
    f ∙ (ap (λ (p : MachineCpuValue). record p { stops = loses_key k (loads_count k count p.stops) }) e
    ∙ ap (λ (c : CpuValue). record old { stops = c }) (tries_more k lost count old.stops))

pub stay_more : (up : Bool) (lost : List ℕ) (count : ℕ) → AllByRecursion (StaysOn up) lost → StaysOn up count → AllByRecursion (StaysOn up) (lost ++ count ∷ [])
stay_more up lost count all one = all_more (StaysOn up) lost count all one

module _ (k : ℕ) (up : Bool) (lost : List ℕ) (stay : AllByRecursion (StaysOn up) lost) (old mid new : CpuValue) (e : mid ≡ tries_all k lost old) where
  loads : (count : ℕ) (loaded : CpuValue) → FindsCount mid k count → loaded ≡ loads_count k count mid → Loads k up count old loaded
  loads count loaded finds is = record {
    lost = lost;
    stay = stay;
    finds = subst (λ (c : CpuValue). FindsCount c k count) e finds;
    is = is ∙ ap (loads_count k count) e;
  }

  pub nudge_done : (n : Nudge) → n ≡ Done → NudgeAnswers k up mid new (Ok n) → Nudges k up old new (Ok true)
  nudge_done Done is a = (a.0, loads_count k a.0 mid, loads a.0 (loads_count k a.0 mid) a.1.finds refl, a.2, a.3, a.4)
  nudge_done _ is a = absurd cc

  pub nudge_turns : (n : Nudge) → n ≡ Stop → NudgeAnswers k up mid new (Ok n) → Nudges k up old new (Ok false)
  nudge_turns Stop is a = subst (λ (x : ℕ). Loads k up x old new) a.2 (loads a.0 new a.1.finds a.3)
  nudge_turns _ is a = absurd cc

  pub nudge_refused : (x : SmpError) → HasKey mid k → NudgeAnswers k up mid new (Err x) → Nudges k up old new (Err x)
  nudge_refused (error.KeyRange x) key a = (a.3, subst (λ (n : ℕ). Loads k up n old new) a.2 (loads a.0 new a.1.finds a.4))
  nudge_refused error.BadArgument key a = absurd (a.0 key)
  nudge_refused _ key a = absurd a

-- nudges after one that was lost are nudges of before
tries_first : (k first : ℕ) (lost : List ℕ) (c : CpuValue) → tries_all k lost (loses_key k (loads_count k first c)) ≡ tries_all k (first ∷ lost) c
tries_first k first lost c =
    let read : (c.part.readings ++ key_read k first ∷ []) ++ map (key_read k) lost ≡ c.part.readings ++ map (key_read k) (first ∷ lost) =
    append_assoc c.part.readings (key_read k first ∷ []) (map (key_read k) lost) in
    let moved : ((c.moves ++ Found k first ∷ []) ++ move.Lost k ∷ []) ++ lost_tries k lost ≡ c.moves ++ lost_tries k (first ∷ lost) =
    append_assoc (c.moves ++ Found k first ∷ []) (move.Lost k ∷ []) (lost_tries k lost)
    ∙ append_assoc c.moves (Found k first ∷ []) (move.Lost k ∷ lost_tries k lost) in
    let made : c.steps + 1 + 1 + 2 * length lost ≡ c.steps + 2 * length (first ∷ lost) = omega arith in
    λ i. record c { part = record (c.part) { readings = read i }; moves = moved i; steps = made i }

loads_after : (k : ℕ) (up : Bool) (count first : ℕ) (old mid loaded : CpuValue) → StaysOn up first
    → mid ≡ loses_key k (loads_count k first old) → Loads k up count mid loaded → Loads k up count old loaded
loads_after k up count first old mid loaded on e l =
    let is : tries_all k l.lost mid ≡ tries_all k (first ∷ l.lost) old = ap (tries_all k l.lost) e ∙ tries_first k first l.lost old in
    record {
      lost = first ∷ l.lost;
      stay = (on, l.stay);
      finds = subst (λ (c : CpuValue). FindsCount c k count) is l.finds;
      is = l.is ∙ ap (loads_count k count) is;
    }

pub nudges_after : (k : ℕ) (up : Bool) (first : ℕ) (old mid new : CpuValue) → StaysOn up first → mid ≡ loses_key k (loads_count k first old)
    → (r : Result Bool SmpError) → Nudges k up mid new r → Nudges k up old new r
nudges_after k up first old mid new on e (Ok true) n = (n.0, n.1, loads_after k up n.0 first old mid n.1 on e n.2, n.3, n.4, n.5)
nudges_after k up first old mid new on e (Ok false) n = loads_after k up (turn_at up) first old mid new on e n
nudges_after k up first old mid new on e (Err (error.KeyRange x)) n = (n.0, loads_after k up (edge_at up) first old mid new on e n.1)
nudges_after k up first old mid new on e (Err _) n = absurd n

pub nudge_lost : (k : ℕ) (up : Bool) (mid new : CpuValue) (n : Nudge) → n ≡ Lost → NudgeAnswers k up mid new (Ok n) → (count : ℕ)
    × StaysOn up count × (new ≡ loses_key k (loads_count k count mid))
nudge_lost k up mid new Lost is a = (a.0, a.3, a.6)
nudge_lost k up mid new _ is a = absurd cc

-- ---- what a nudge leaves

-- the looks of such loads
abbrev looks_of : {k : ℕ} {up : Bool} {count : ℕ} {old loaded : CpuValue} → Loads k up count old loaded → List OwnMove
looks_of {k} {up} {count} l = lost_tries k l.lost ++ Found k count ∷ []

are_looks : {k : ℕ} {up : Bool} {count : ℕ} {old loaded : CpuValue} (l : Loads k up count old loaded) → Looks k up count (looks_of l)
are_looks l = record { lost = l.lost; stay = l.stay; are = refl }

told_tries : (k : ℕ) (lost : List ℕ) → told (lost_tries k lost) ≡ lost_tries k lost
told_tries k [] = refl
told_tries k (count ∷ more) = ap (λ (l : List OwnMove). Found k count ∷ move.Lost k ∷ l) (told_tries k more)

told_loads : (k : ℕ) (lost : List ℕ) (count : ℕ) (l : List OwnMove)
    → told ((l ++ lost_tries k lost) ++ Found k count ∷ []) ≡ told l ++ (lost_tries k lost ++ Found k count ∷ [])
told_loads k lost count l =
    told_more (l ++ lost_tries k lost) (Found k count ∷ [])
    ∙ (ap (λ (x : List OwnMove). x ++ Found k count ∷ []) (told_more l (lost_tries k lost) ∙ ap (λ (x : List OwnMove). told l ++ x) (told_tries k lost))
    ∙ append_assoc (told l) (lost_tries k lost) (Found k count ∷ []))

-- such loads come after what the CPU has done
later_loads : (k : ℕ) (lost : List ℕ) (count : ℕ) (l : List OwnMove) → IsBeginning l ((l ++ lost_tries k lost) ++ Found k count ∷ [])
later_loads k lost count l = (lost_tries k lost ++ Found k count ∷ [], append_assoc l (lost_tries k lost) (Found k count ∷ []))

abbrev nudge_if : Bool → Bool → ℕ → Own → Own
nudge_if true up k o = with_nudge up k o
nudge_if false up k o = o

module _ {H F : Type 0} (hears : H → Heard → H → Type 0) (runs : F → Called → F → Type 0) (t : TableValue) (k : ℕ) (up : Bool) where
  pub works_loads : (count : ℕ) (p m : MachineCpuValue) (h : H) (f : F) (l : Loads k up count p.stops m.stops) → m ≡ record p { stops = m.stops }
      → Works hears runs p h f m h f (with_moves (looks_of l) (own_of p))
  works_loads count p m h f l e =
      let s = loads_count k count (tries_all k l.lost p.stops) in
      works_step hears runs p m h f s (with_moves (looks_of l) (own_of p)) (e ∙ ap (λ (c : CpuValue). record p { stops = c }) l.is)
      (later_still p.stops s refl refl refl refl refl refl (later_loads k l.lost count p.stops.moves)) refl refl refl refl refl refl
      (own_still p.stops s refl refl refl refl (λ _ e _. e) refl)
      (λ i. record (own_of p) { moves = told_loads k l.lost count p.stops.moves i })

  works_nudged : (count : ℕ) (p m : MachineCpuValue) (loaded : CpuValue) (h : H) (f : F) (l : Loads k up count p.stops loaded) → m.stops ≡ nudged up k loaded
      → m ≡ record p { stops = m.stops } → Works hears runs p h f m h f (with_nudge up k (with_moves (looks_of l) (own_of p)))
  works_nudged count p m loaded h f l n e =
      let s = nudged up k (loads_count k count (tries_all k l.lost p.stops)) in
      let is : m.stops ≡ s = n ∙ ap (nudged up k) l.is in
      works_step hears runs p m h f s (with_nudge up k (with_moves (looks_of l) (own_of p))) (e ∙ ap (λ (c : CpuValue). record p { stops = c }) is)
      (later_still p.stops s refl refl refl refl refl refl (later_loads k l.lost count p.stops.moves)) refl refl refl refl refl refl
      (own_still p.stops s refl refl refl refl (λ _ e _. e) refl)
      (λ i. record (with_nudge up k (own_of p)) { moves = told_loads k l.lost count p.stops.moves i })

  -- ---- on a CPU that holds the gate, which is given up

  -- the count was nudged
  pub at_gate_nudged : (p m new : MachineCpuValue) (h : H) (f : F) → Nudges k up p.stops m.stops (Ok true) → m ≡ record p { stops = m.stops }
      → p.stops.inside ≡ None → new ≡ record m { stops = gives_gate m.stops }
      → CountsBy hears runs (LooksFrom [] k up) t k up p h f new h f (Ok false)
  at_gate_nudged p m new h f n e outside g =
      let l = n.2 in
      let own : Own = with_gate false (with_nudge up k (own_of p)) in
      let is : new.stops ≡ gives_gate (nudged up k n.1) = ap (λ (x : MachineCpuValue). x.stops) g ∙ ap (gives_gate) n.5 in
      record {
        count = n.0;
        stays = n.3;
        gate = true;
        moves = looks_of l;
        looks = (refl, (looks_of l, are_looks l, refl));
        before = tries_all k l.lost p.stops;
        finds = l.finds;
        is = is ∙ ap (λ (c : CpuValue). gives_gate (nudged up k c)) l.is;
        works = works_as hears runs (with_moves (looks_of l ++ Gave ∷ []) own)
            (λ i. record own { moves = append_assoc (own_of p).moves (looks_of l) (Gave ∷ []) i })
            (works_both hears runs (λ (o : Own). with_nudge up k (with_moves (looks_of l) o)) (λ (o : Own). with_moves (Gave ∷ []) (with_gate false o))
            (works_nudged n.0 p m n.1 h f l n.5 e) (works_give hears runs m new h f g));
        outside = ap (λ (c : CpuValue). c.inside) is ∙ (ap (λ (c : CpuValue). c.inside) l.is ∙ outside);
      }

  -- it is at the end of its range
  pub at_gate_refused : (x : SmpError) (p m new : MachineCpuValue) (h : H) (f : F) → Nudges k up p.stops m.stops (Err x) → m ≡ record p { stops = m.stops }
      → p.stops.inside ≡ None → new ≡ record m { stops = gives_gate m.stops }
      → CountsBy hears runs (LooksFrom [] k up) t k up p h f new h f (Err x)
  at_gate_refused (error.KeyRange x) p m new h f n e outside g =
      let l = n.1 in
      let own : Own = with_gate false (own_of p) in
      let is : new.stops ≡ gives_gate m.stops = ap (λ (y : MachineCpuValue). y.stops) g in (
        n.0,
        inl (record {
          gate = true;
          moves = looks_of l;
          looks = (refl, (looks_of l, are_looks l, refl));
          before = tries_all k l.lost p.stops;
          finds = l.finds;
          is = is ∙ ap (gives_gate) l.is;
          works = works_as hears runs (with_moves (looks_of l ++ Gave ∷ []) own)
              (λ i. record own { moves = append_assoc (own_of p).moves (looks_of l) (Gave ∷ []) i })
              (works_both hears runs (with_moves (looks_of l)) (λ (o : Own). with_moves (Gave ∷ []) (with_gate false o))
              (works_loads (edge_at up) p m h f l e) (works_give hears runs m new h f g));
          outside = ap (λ (c : CpuValue). c.inside) is ∙ (ap (λ (c : CpuValue). c.inside) l.is ∙ outside);
        }),
      )
  at_gate_refused _ p m new h f n e outside g = absurd n

  -- a patch by one, after a stretch with these moves, in which at most the gate was taken
  patches_after : (held : Bool) (before first : List OwnMove) {p m new : MachineCpuValue} {h h₁ h' : H} {f f₁ f' : F} (answer : ℤ)
      → Works hears runs p h f m h₁ f₁ (with_moves before (with_gate held (own_of p))) → PatchesByOne hears runs t k up first m h₁ f₁ new h' f' answer
      → PatchesByOne hears runs t k up (before ++ first) p h f new h' f' answer
  patches_after held before first {p} {m} {new} answer w b = record {
    work = b.work;
    patch = b.patch;
    stopped = stopped_after hears runs held before first b.work answer w b.stopped;
    last = own_after p m new w.serves w.passes_number b.last;
  }

  patches_as : {first other : List OwnMove} {p new : MachineCpuValue} {h h' : H} {f f' : F} {answer : ℤ} → first ≡ other
      → PatchesByOne hears runs t k up first p h f new h' f' answer → PatchesByOne hears runs t k up other p h f new h' f' answer
  patches_as {first} {other} {p} {new} {h} {h'} {f} {f'} {answer} e b =
      subst (λ (l : List OwnMove). PatchesByOne hears runs t k up l p h f new h' f' answer) e b

  -- a patch by one, after a look that has found that the key would turn
  patched_from : (p m new : MachineCpuValue) (h h' : H) (f f' : F) (answer : ℤ) → (l : Loads k up (turn_at up) p.stops m.stops)
      → m ≡ record p { stops = m.stops } → PatchesByOne hears runs t k up [] m h f new h' f' answer
      → PatchesByOne hears runs t k up (looks_of l) p h f new h' f' answer
  patched_from p m new h h' f f' answer l e b =
      patches_as (append-nil (looks_of l)) (patches_after p.stops.part.holds (looks_of l) [] answer (works_loads (turn_at up) p m h f l e) b)

  pub at_gate_patched : (r : Result Bool SmpError) (p m new : MachineCpuValue) (h h' : H) (f f' : F) → Loads k up (turn_at up) p.stops m.stops
      → m ≡ record p { stops = m.stops } → Patches hears runs t k up m h f new h' f' r
      → CountsBy hears runs (LooksFrom [] k up) t k up p h f new h' f' r
  at_gate_patched (Ok true) p m new h h' f f' l e b =
      record { moves = looks_of l; looks = (refl, (looks_of l, are_looks l, refl)); patches = patched_from p m new h h' f f' (pos 0) l e b }
  at_gate_patched (Ok false) p m new h h' f f' l e b = absurd b
  at_gate_patched (Err (error.KeyRange x)) p m new h h' f f' l e b = (
    b.0,
    inr (
      b.1.0,
      b.1.1,
      record { moves = looks_of l; looks = (refl, (looks_of l, are_looks l, refl)); patches = patched_from p m new h h' f f' b.1.0 l e b.1.2 },
    ),
  )
  at_gate_patched (Err _) p m new h h' f f' l e b = absurd b

  -- ---- after a stretch with these moves, in which at most the gate was taken

  moves_after : {p m new : MachineCpuValue} {h h₁ h' : H} {f f₁ f' : F} (nudges held : Bool) (before moves : List OwnMove) (gate : Bool)
      → Works hears runs p h f m h₁ f₁ (with_moves before (with_gate held (own_of p)))
      → Works hears runs m h₁ f₁ new h' f' (nudge_if nudges up k (with_moves (moves ++ gave_if gate) (with_gate false (own_of m))))
      → Works hears runs p h f new h' f' (nudge_if nudges up k (with_moves ((before ++ moves) ++ gave_if gate) (with_gate false (own_of p))))
  moves_after {p} {m} {new} {h} {h₁} {h'} {f} {f₁} {f'} nudges held before moves gate a b =
      let gave : List OwnMove = gave_if gate in
      let own : Own = with_gate false (own_of p) in
      let is : ((own_of p).moves ++ before) ++ (moves ++ gave) ≡ (own_of p).moves ++ ((before ++ moves) ++ gave) =
      append_assoc (own_of p).moves before (moves ++ gave) ∙ ap (λ (l : List OwnMove). (own_of p).moves ++ l) (sym (append_assoc before moves gave)) in
      works_as hears runs (nudge_if nudges up k (with_moves ((before ++ moves) ++ gave) own)) (λ i. nudge_if nudges up k (record own { moves = is i }))
      (works_both hears runs (λ (o : Own). with_moves before (with_gate held o))
      (λ (o : Own). nudge_if nudges up k (with_moves (moves ++ gave) (with_gate false o))) a b)

  -- what such looks are with the moves of before
  pub counts_after : (held : Bool) (before : List OwnMove) (looking other : Looking)
      → ((count : ℕ) (gate : Bool) (moves : List OwnMove) → looking count gate moves → other count gate (before ++ moves))
      → (r : Result Bool SmpError) (p m new : MachineCpuValue) (h h₁ h' : H) (f f₁ f' : F)
      → Works hears runs p h f m h₁ f₁ (with_moves before (with_gate held (own_of p)))
      → CountsBy hears runs looking t k up m h₁ f₁ new h' f' r → CountsBy hears runs other t k up p h f new h' f' r
  counts_after held before looking other are (Ok false) p m new h h₁ h' f f₁ f' w c = record {
    count = c.count;
    stays = c.stays;
    gate = c.gate;
    moves = before ++ c.moves;
    looks = are c.count c.gate c.moves c.looks;
    before = c.before;
    finds = c.finds;
    is = c.is;
    works = moves_after true held before c.moves c.gate w c.works;
    outside = c.outside;
  }
  counts_after held before looking other are (Ok true) p m new h h₁ h' f f₁ f' w c = record {
    moves = before ++ c.moves;
    looks = are (turn_at up) true c.moves c.looks;
    patches = patches_after held before c.moves (pos 0) w c.patches;
  }
  counts_after held before looking other are (Err (error.KeyRange x)) p m new h h₁ h' f f₁ f' w (a, inl c) = (
    a,
    inl (record {
      gate = c.gate;
      moves = before ++ c.moves;
      looks = are (edge_at up) c.gate c.moves c.looks;
      before = c.before;
      finds = c.finds;
      is = c.is;
      works = moves_after false held before c.moves c.gate w c.works;
      outside = c.outside;
    }),
  )
  counts_after held before looking other are (Err (error.KeyRange x)) p m new h h₁ h' f f₁ f' w (a, inr (v, n, c)) = (
    a,
    inr (
      v,
      n,
      record {
        moves = before ++ c.moves;
        looks = are (turn_at up) true c.moves c.looks;
        patches = patches_after held before c.moves v w c.patches;
      },
    ),
  )
  counts_after held before looking other are (Err _) p m new h h₁ h' f f₁ f' w c = absurd c

  -- the gate was taken
  pub looks_by_gate : (count : ℕ) (gate : Bool) (moves : List OwnMove) → LooksFrom [] k up count gate moves
      → LooksFrom (Took ∷ []) k up count gate ((Took ∷ []) ++ moves)
  looks_by_gate count gate moves l = (l.0, (l.1.0, l.1.1, ap (λ (x : List OwnMove). Took ∷ x) l.1.2))

  -- after looks that have found that the key would turn
  pub looks_up_to : (first : List OwnMove) → Looks k up (turn_at up) first → (count : ℕ) (gate : Bool) (moves : List OwnMove)
      → LooksFrom (Took ∷ []) k up count gate moves → LooksUpTo k up count gate (first ++ moves)
  looks_up_to first looks count true moves l = (first, l.1.0, looks, l.1.1, ap (λ (x : List OwnMove). first ++ x) l.1.2)
  looks_up_to first looks count false moves l = absurd (true≢false (sym l.0))

  -- ---- without the gate

  pub counts_nudged : (p m : MachineCpuValue) (h : H) (f : F) → Nudges k up p.stops m.stops (Ok true) → m ≡ record p { stops = m.stops }
      → p.stops.inside ≡ None → p.stops.part.holds ≡ false → Counts hears runs t k up p h f m h f (Ok false)
  counts_nudged p m h f n e outside free =
      let l = n.2 in
      let own : Own = with_nudge up k (own_of p) in
      record {
        count = n.0;
        stays = n.3;
        gate = false;
        moves = looks_of l;
        looks = are_looks l;
        before = tries_all k l.lost p.stops;
        finds = l.finds;
        is = n.5 ∙ ap (nudged up k) l.is;
        works = works_as hears runs (with_nudge up k (with_moves (looks_of l ++ []) (with_gate false (own_of p))))
            (λ i. record own { gate = free i; moves = (own_of p).moves ++ sym (append-nil (looks_of l)) i }) (works_nudged n.0 p m n.1 h f l n.5 e);
        outside = ap (λ (c : CpuValue). c.inside) n.5 ∙ (ap (λ (c : CpuValue). c.inside) l.is ∙ outside);
      }

  pub counts_refused : (x : SmpError) (p m : MachineCpuValue) (h : H) (f : F) → Nudges k up p.stops m.stops (Err x) → m ≡ record p { stops = m.stops }
      → p.stops.inside ≡ None → p.stops.part.holds ≡ false → Counts hears runs t k up p h f m h f (Err x)
  counts_refused (error.KeyRange x) p m h f n e outside free =
      let l = n.1 in (
        n.0,
        inl (record {
          gate = false;
          moves = looks_of l;
          looks = are_looks l;
          before = tries_all k l.lost p.stops;
          finds = l.finds;
          is = l.is;
          works = works_as hears runs (with_moves (looks_of l ++ []) (with_gate false (own_of p)))
              (λ i. record (own_of p) { gate = free i; moves = (own_of p).moves ++ sym (append-nil (looks_of l)) i }) (works_loads (edge_at up) p m h f l e);
          outside = ap (λ (c : CpuValue). c.inside) l.is ∙ outside;
        }),
      )
  counts_refused _ p m h f n e outside free = absurd n

  -- the gate is taken after looks that have found that the key would turn
  pub counts_gated : (r : Result Bool SmpError) (p m new : MachineCpuValue) (h h' : H) (f f' : F) → Loads k up (turn_at up) p.stops m.stops
      → m ≡ record p { stops = m.stops } → CountsBy hears runs (LooksFrom (Took ∷ []) k up) t k up m h f new h' f' r
      → Counts hears runs t k up p h f new h' f' r
  counts_gated r p m new h h' f f' l e c =
      counts_after p.stops.part.holds (looks_of l) (LooksFrom (Took ∷ []) k up) (LooksUpTo k up) (looks_up_to (looks_of l) (are_looks l))
      r p m new h h h' f f f'
      (works_loads (turn_at up) p m h f l e) c

pub edge_is : (up : Bool) → edge_of (step_of up) ≡ end_of up
edge_is true = refl
edge_is false = refl
