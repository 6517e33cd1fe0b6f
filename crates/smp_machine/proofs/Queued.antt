-- What is noted with the puts of a stop.
use Rattle.std.proofs.Common.{◌≡◌, inl, inr, ℕ, ℤ, zero, suc, ◌+◌, ◌<◌, ◌≤◌, ◌==◌, ◌&&◌, nat_lt, Bool, true, false, if◌then◌else◌, Option, Some}
use Rattle.std.proofs.Common.{List, [], ◌∷◌, ◌++◌, length, slice_index_or, length-set, length-append, append_assoc, arith, refl, sym, ap, ◌∙◌, subst}
use Rattle.std.proofs.Common.{eq-eqb, ne_eqb}
use Rattle.std.proofs.lemmas.Bool.{cases_eq}
use Rattle.std.proofs.lemmas.List.{append-nil, get_or-set_same, get_or-set_other}
use Rattle.smp_mask.specs.Mask.{has, members_below}
use Rattle.smp_mask.specs.declared.mask.TheConstants.{NR_CPUS}
use Rattle.smp_queue.specs.declared.handler.Heard.{Heard}
use Rattle.smp_multi.specs.Names.{OwnMove, Work}
use Rattle.smp_multi.specs.declared.func.Called.{Called}
use Rattle.smp_machine.specs.declared.work_queue.Item.{Item}
use Rattle.smp_machine.specs.declared.work_queue.PutNote.{PutNote}
use Rattle.smp_machine.specs.GateLaws.{noted_at_gate, HasQueued}
use Rattle.smp_machine.specs.Own.{Own, put_one, put_all, note_all}
use Rattle.smp_machine.specs.Passes.{noted_to, total}
use Rattle.smp_machine.specs.MachineCpu.{MachineCpuValue}
use Rattle.smp_machine.specs.Stops.{item, HasStopped}
use Rattle.smp_machine.proofs.Stopping.{put_all-append, note_all-append}
use Rattle.smp_machine.proofs.StopLaws.{once, none_below_0, below, put_sized}

-- one item more in all
total_put : (x : Item) (k : ℕ) (put : List (List Item)) → k < length put → total (put_one x k put) ≡ total put + 1
total_put x k [] low = absurd (omega arith)
total_put x zero (l ∷ more) low = let sized : length (l ++ x ∷ []) ≡ length l + 1 = length-append l (x ∷ []) in omega arith
total_put x (suc k) (l ∷ more) low = let rest : total (put_one x k more) ≡ total more + 1 = total_put x k more (omega arith) in omega arith

total_last : (x : Item) (k : ℕ) (put : List (List Item)) (here : Bool) → k < length put
    → total (put_all x (if here then k ∷ [] else []) put) ≡ total put + length (if here then k ∷ [] else [])
total_last x k put true low = total_put x k put low
total_last x k put false low = omega arith

total_members : (x : Item) (m k : ℕ) (put : List (List Item)) → k ≤ length put
    → total (put_all x (members_below m k) put) ≡ total put + length (members_below m k)
unfolding members_below
total_members x m zero put low = omega arith
total_members x m (suc k) put low =
    let last : List ℕ = if has m k then k ∷ [] else [] in
    let mid : List (List Item) = put_all x (members_below m k) put in
    let split : total (put_all x (members_below m k ++ last) put) ≡ total (put_all x last mid) = ap total (put_all-append x (members_below m k) last put) in
    let sized : length mid ≡ length put = put_sized x (members_below m k) put in
    let more : total (put_all x last mid) ≡ total mid + length last = total_last x k mid (has m k) (omega arith) in
    let before : total mid ≡ total put + length (members_below m k) = total_members x m k put (omega arith) in
    let both : length (members_below m k ++ last) ≡ length (members_below m k) + length last = length-append (members_below m k) last in
    omega arith

module _ (gate : Bool) (stop : Option Work) (x : Item) where
  abbrev note : ℕ → PutNote
  note n = record { gate = gate; stop = stop; before = n }

  notes_sized : (xs : List ℕ) (put : List (List Item)) (noted : List (List PutNote)) → length (note_all gate stop x xs put noted) ≡ length noted
  notes_sized [] put noted = refl
  notes_sized (cpu ∷ xs) put noted =
      notes_sized xs (put_one x cpu put) (put_one (note (total put)) cpu noted)
      ∙ length-set noted cpu (slice_index_or noted cpu [] ++ note (total put) ∷ [])

  -- one CPU more, or not
  note_last : (c k : ℕ) (put : List (List Item)) (noted : List (List PutNote)) (here : Bool) → c < length noted
      → slice_index_or (note_all gate stop x (if here then k ∷ [] else []) put noted) c []
      ≡ slice_index_or noted c [] ++ (if here && k == c then note (total put) ∷ [] else [])
  note_last c k put noted false low = sym (append-nil (slice_index_or noted c []))
  note_last c k put noted true low =
      let n : PutNote = note (total put) in elim (cases_eq k c) [
        | inl same ↦
            ap (λ (j : ℕ). slice_index_or (put_one n j noted) c []) same
            ∙ (get_or-set_same noted c (slice_index_or noted c [] ++ n ∷ []) [] low
            ∙ sym (ap (λ (t : Bool). slice_index_or noted c [] ++ (if t then n ∷ [] else [])) (eq-eqb k c same)))
        | inr apart ↦
            get_or-set_other noted k c (slice_index_or noted k [] ++ n ∷ []) [] (λ e. apart (sym e))
            ∙ (sym (append-nil (slice_index_or noted c []))
            ∙ sym (ap (λ (t : Bool). slice_index_or noted c [] ++ (if t then n ∷ [] else [])) (ne_eqb k c apart)))
      ]

  note_members : (m c k : ℕ) (put : List (List Item)) (noted : List (List PutNote)) → c < length noted → k ≤ length put
      → slice_index_or (note_all gate stop x (members_below m k) put noted) c []
      ≡ slice_index_or noted c [] ++ (if has m c && nat_lt c k then note (total put + length (members_below m c)) ∷ [] else [])
  unfolding members_below
  note_members m c zero put noted low room = none_below_0 (note (total put + length (members_below m c))) (slice_index_or noted c []) (has m c) c
  note_members m c (suc k) put noted low room =
      let f : ℕ → PutNote = λ j. note (total put + length (members_below m j)) in
      let last : List ℕ = if has m k then k ∷ [] else [] in
      let mid : List (List Item) = put_all x (members_below m k) put in
      let before : List (List PutNote) = note_all gate stop x (members_below m k) put noted in
      ap (λ (l : List (List PutNote)). slice_index_or l c []) (note_all-append gate stop x (members_below m k) last put noted)
      ∙ (note_last c k mid before (has m k) (subst (λ (n : ℕ). c < n) (sym (notes_sized (members_below m k) put noted)) low)
      ∙ (ap (λ (n : ℕ). slice_index_or before c [] ++ (if has m k && k == c then note n ∷ [] else [])) (total_members x m k put (omega arith))
      ∙ (ap (λ (l : List PutNote). l ++ (if has m k && k == c then f k ∷ [] else [])) (note_members m c k put noted low (omega arith))
      ∙ (append_assoc (slice_index_or noted c []) (if has m c && nat_lt c k then f c ∷ [] else []) (if has m k && k == c then f k ∷ [] else [])
      ∙ ap (λ (l : List PutNote). slice_index_or noted c [] ++ l) (once f m c k)))))

module _ {H F : Type 0} (hears : H → Heard → H → Type 0) (runs : F → Called → F → Type 0) where
  pub has_queued : (moves : Work → ℕ → List OwnMove) (work : Work) (old new : MachineCpuValue) (h h' : H) (f f' : F) (answer : ℤ)
      → HasStopped hears runs moves work old h f new h' f' answer → length old.passes.put ≡ NR_CPUS → length old.passes.noted ≡ NR_CPUS
      → HasQueued work old new
  has_queued moves work old new h h' f f' answer s put noted c low =
      let x : Item = item old.stops.number work in
      ap (λ (o : Own). slice_index_or o.noted c []) s.works.own_is
      ∙ (note_members true (Some work) x work.mask c NR_CPUS old.passes.put old.passes.noted (subst (λ (n : ℕ). c < n) (sym noted) low) (omega arith)
      ∙ ap (λ (l : List PutNote). noted_to old.passes c ++ l) (below (noted_at_gate work old c) (has work.mask c) c low))
