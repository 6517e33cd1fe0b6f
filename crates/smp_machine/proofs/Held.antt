-- What a put and a take leave of a CPU's passes.
use Rattle.std.proofs.Common.{◌≡◌, ℕ, zero, suc, ◌<◌, true, false, true≢false, Option, Some, None, Result, Ok, Err, MatchOption}
use Rattle.std.proofs.Common.{MatchResult, List, [], ◌∷◌, ◌++◌, length, map, slice_index_or, slice_set, sym, refl, ap, ◌∙◌, subst, inl, inr, arith}
use Rattle.std.proofs.lemmas.Bool.{cases_eq}
use Rattle.std.proofs.lemmas.List.{get_or-set_same, get_or-set_other, map-set}
use Rattle.std.proofs.Math.Seq.{map-set_same}
use Rattle.std.proofs.Common.{length-set}
use Rattle.std.specs.Result.{is_ok}
use Rattle.atomic_table.specs.Seated.{TableId}
use Rattle.crossbeam_queue.specs.Passes.{Pass, view}
use Rattle.smp_words.specs.Size.{cpus}
use Rattle.smp_machine.specs.declared.work_queue.Item.{Item}
use Rattle.smp_machine.specs.declared.work_queue.Knows.{Knows}
use Rattle.smp_machine.specs.declared.work_queue.Knows.TheVariants.{Takes, Puts}
use Rattle.smp_machine.specs.declared.work_queue.PutNote.{PutNote}
use Rattle.smp_machine.specs.WorkQueue.{puts_more, takes_more, IsKnown}
use Rattle.smp_machine.specs.Passes.{items_of, notes_of, IsTakes, IsPuts, ids_of, put_of, noted_of, passes_of, IsSource, AreHeld, puts}

-- what is at an index, under a function
pub index_map : {A B : Type 0} (f : A → B) (xs : List A) (i : ℕ) (x : A) (d : B) → i < length xs → x ≡ slice_index_or xs i x
    → slice_index_or (map f xs) i d ≡ f x
index_map f [] i x d l e = absurd (omega arith)
index_map f (y ∷ ys) zero x d l e = ap f (sym e)
index_map f (y ∷ ys) (suc i) x d l e = index_map f ys i x d (omega arith) e

-- two rows that agree, at an index
pub same_at : {A B C : Type 0} (f : A → C) (g : B → C) (xs : List A) (ys : List B) (i : ℕ) (x : A) (y : B)
    → map f xs ≡ map g ys → i < length xs → i < length ys → x ≡ slice_index_or xs i x → y ≡ slice_index_or ys i y → f x ≡ g y
same_at {C = C} f g xs ys i x y e l m here there =
    sym (index_map f xs i x (f x) l here) ∙ (ap (λ (zs : List C). slice_index_or zs i (f x)) e ∙ index_map g ys i y (f x) m there)

pub length_map : {A B : Type 0} (f : A → B) (xs : List A) → length (map f xs) ≡ length xs
length_map f [] = refl
length_map f (x ∷ xs) = ap suc (length_map f xs)

pub match_ok : (r : Result (Unit {0}) Item) (P : Type 0) (Q : Item → Type 0) → is_ok r ≡ true → MatchResult r (λ _. P) Q → P
match_ok (Ok u) P Q e h = h
match_ok (Err y) P Q e h = absurd (true≢false (sym e))

pub match_err : (r : Result (Unit {0}) Item) (P : Type 0) (A : Item → Type 0) (B C : Type 0) → is_ok r ≡ false → MatchResult r (λ _. P) (λ y. A y × B × C) → B
match_err (Ok u) P A B C e h = absurd (true≢false e)
match_err (Err y) P A B C e h = h.1

pub match_both : (r : Result (Unit {0}) Item) (P : Type 0) (Q : Item → Type 0) (R : Type 0) → (P → R) → ((y : Item) → Q y → R) → MatchResult r (λ _. P) Q → R
match_both (Ok u) P Q R f k h = f h
match_both (Err y) P Q R f k h = k y h

pub puts_are : (n : ℕ) (v : Knows) → IsPuts n v → v ≡ Puts n (items_of v) (notes_of v)
puts_are n (Takes m l) h = absurd h
puts_are n (Puts s l notes) h = λ i. Puts (h i) l notes

next_of : Knows → ℕ
next_of (Takes n l) = n
next_of (Puts s l notes) = s

pub takes_are : (v : Knows) → IsTakes v → (n : ℕ) × (v ≡ Takes n (items_of v))
takes_are (Takes n l) h = (n, refl)
takes_are (Puts s l notes) h = absurd h

puts_still : (note : PutNote) (n : ℕ) (v : Knows) (x : Item) → IsPuts n v → IsPuts n (puts_more note v x)
puts_still note n (Takes m l) x h = h
puts_still note n (Puts s l notes) x h = h

items_put : (note : PutNote) (n : ℕ) (v : Knows) (x : Item) → IsPuts n v → items_of (puts_more note v x) ≡ items_of v ++ x ∷ []
items_put note n (Takes m l) x h = absurd h
items_put note n (Puts s l notes) x h = refl

notes_put : (note : PutNote) (n : ℕ) (v : Knows) (x : Item) → IsPuts n v → notes_of (puts_more note v x) ≡ notes_of v ++ note ∷ []
notes_put note n (Takes m l) x h = absurd h
notes_put note n (Puts s l notes) x h = refl

pub still_puts : (note : PutNote) (r : Result (Unit {0}) Item) (n : ℕ) (v w : Knows) (x : Item) (A : Item → Type 0) (K : Type 0) → IsPuts n v
    → MatchResult r (λ _. (w ≡ puts_more note v x) × IsKnown w) (λ y. A y × (w ≡ v) × K) → IsPuts n w
still_puts note r n v w x A K h =
    match_both r _ _ (IsPuts n w) (λ t. subst (IsPuts n) (sym t.0) (puts_still note n v x h)) (λ y t. subst (IsPuts n) (sym t.1) h)

ids_kept : (to : List (Pass Item Knows)) (i : ℕ) (p q : Pass Item Knows) → p ≡ slice_index_or to i p → q.table_id ≡ p.table_id
    → ids_of (slice_set to i q) ≡ ids_of to
ids_kept to i p q at same = map-set_same (λ (y : Pass Item Knows). y.table_id) to i q p (same ∙ ap (λ (y : Pass Item Knows). y.table_id) at)

module _ (number : ℕ) (to : List (Pass Item Knows)) (own : Pass Item Knows) (h : AreHeld number to own) where
  set_sources : (i : ℕ) (q : Pass Item Knows) → i < cpus → IsSource number q → (j : ℕ) (r : Pass Item Knows)
      → j < cpus → r ≡ slice_index_or (slice_set to i q) j r → IsSource number r
  set_sources i q below is j r l at = elim (cases_eq j i) [
    | inl e ↦ let sized : length to ≡ cpus = h.sized in let short : i < length to = omega arith in
        subst (IsSource number) (sym (at ∙ (ap (λ (k : ℕ). slice_index_or (slice_set to i q) k r) e ∙ get_or-set_same to i q r short))) is
    | inr n ↦ h.sources j r l (at ∙ get_or-set_other to i j q r n)
  ]

  pub held_put : (i : ℕ) (p q : Pass Item Knows) → i < cpus → p ≡ slice_index_or to i p → q.table_id ≡ p.table_id
      → q.me.1 ≡ [] → IsPuts number (view q) → AreHeld number (slice_set to i q) own
  held_put i p q below at same empty is = record {
    below = h.below;
    sized = length-set to i q ∙ h.sized;
    sources = set_sources i q below record { empty = empty; puts = is };
    own_empty = h.own_empty;
    own_takes = h.own_takes;
    own_queue = h.own_queue ∙ ap (λ (ids : List TableId). slice_index_or ids number own.table_id) (sym (ids_kept to i p q at same));
  }

  -- what the CPU has put, once this pass has changed
  put_set : (note : PutNote) (i : ℕ) (p q : Pass Item Knows) (x : Item) → i < cpus → p ≡ slice_index_or to i p → view q ≡ puts_more note (view p) x
      → put_of (slice_set to i q) ≡ slice_set (put_of to) i (slice_index_or (put_of to) i [] ++ x ∷ [])
  put_set note i p q x below at more =
      let f : Pass Item Knows → List Item = λ y. items_of (view y) in
      let sized : length to ≡ cpus = h.sized in
      let short : i < length to = omega arith in
      let item : items_of (view q) ≡ slice_index_or (put_of to) i [] ++ x ∷ [] =
      ap items_of more
      ∙ (items_put note number (view p) x (h.sources i p below at).puts ∙ ap (λ (l : List Item). l ++ x ∷ []) (sym (index_map f to i p [] short at))) in
      map-set f to i q ∙ ap (slice_set (put_of to) i) item

  -- and what it has noted
  noted_set : (note : PutNote) (i : ℕ) (p q : Pass Item Knows) (x : Item) → i < cpus → p ≡ slice_index_or to i p → view q ≡ puts_more note (view p) x
      → noted_of (slice_set to i q) ≡ slice_set (noted_of to) i (slice_index_or (noted_of to) i [] ++ note ∷ [])
  noted_set note i p q x below at more =
      let f : Pass Item Knows → List PutNote = λ y. notes_of (view y) in
      let sized : length to ≡ cpus = h.sized in
      let short : i < length to = omega arith in
      let item : notes_of (view q) ≡ slice_index_or (noted_of to) i [] ++ note ∷ [] =
      ap notes_of more
      ∙ (notes_put note number (view p) x (h.sources i p below at).puts
      ∙ ap (λ (l : List PutNote). l ++ note ∷ []) (sym (index_map f to i p [] short at))) in
      map-set f to i q ∙ ap (slice_set (noted_of to) i) item

  pub has_put : (note : PutNote) (i : ℕ) (p q : Pass Item Knows) (x : Item) → i < cpus → p ≡ slice_index_or to i p → q.table_id ≡ p.table_id
      → view q ≡ puts_more note (view p) x → passes_of number (slice_set to i q) own ≡ puts i x note (passes_of number to own)
  has_put note i p q x below at same more = λ k. record {
    queues = ids_kept to i p q at same k;
    number = number;
    put = put_set note i p q x below at more k;
    noted = noted_set note i p q x below at more k;
    taken = items_of (view own);
  }

  pub has_not : (i : ℕ) (p q : Pass Item Knows) → p ≡ slice_index_or to i p → q.table_id ≡ p.table_id → view q ≡ view p
      → passes_of number (slice_set to i q) own ≡ passes_of number to own
  has_not i p q at same alike =
      let f : Pass Item Knows → List Item = λ y. items_of (view y) in
      let g : Pass Item Knows → List PutNote = λ y. notes_of (view y) in
      let put : put_of (slice_set to i q) ≡ put_of to = map-set_same f to i q p (ap items_of alike ∙ ap f at) in
      let noted : noted_of (slice_set to i q) ≡ noted_of to = map-set_same g to i q p (ap notes_of alike ∙ ap g at) in
      λ k. record { queues = ids_kept to i p q at same k; number = number; put = put k; noted = noted k; taken = items_of (view own) }

  pub put_shown : (i : ℕ) (p q : Pass Item Knows) (x : Item) → i < cpus → p ≡ slice_index_or to i p → IsPuts number (view q) → IsKnown (view q)
      → IsKnown (Puts number (slice_index_or (put_of (slice_set to i q)) i []) (slice_index_or (noted_of (slice_set to i q)) i []))
  put_shown i p q x below at is tied =
      let f : Pass Item Knows → List Item = λ y. items_of (view y) in
      let g : Pass Item Knows → List PutNote = λ y. notes_of (view y) in
      let sized : length to ≡ cpus = h.sized in
      let low : i < length to = subst (λ (n : ℕ). i < n) (sym sized) below in
      let there : slice_index_or (put_of (slice_set to i q)) i [] ≡ items_of (view q) =
      ap (λ (l : List (List Item)). slice_index_or l i []) (map-set f to i q)
      ∙ get_or-set_same (map f to) i (f q) [] (subst (λ (n : ℕ). i < n) (sym (length_map f to)) low) in
      let noted : slice_index_or (noted_of (slice_set to i q)) i [] ≡ notes_of (view q) =
      ap (λ (l : List (List PutNote)). slice_index_or l i []) (map-set g to i q)
      ∙ get_or-set_same (map g to) i (g q) [] (subst (λ (n : ℕ). i < n) (sym (length_map g to)) low) in
      subst IsKnown (puts_are number (view q) is ∙ (λ k. Puts number (sym there k) (sym noted k))) tied
