-- The passes of all CPUs, as they are made.
use Rattle.std.proofs.Common.{◌≡◌, ◌≢◌, ◌⊎◌, ℕ, zero, suc, ◌+◌, ◌<◌, ◌≤◌, Option, List, [], ◌∷◌, ◌++◌, length, map, take, slice_index_or, slice_set}
use Rattle.std.proofs.Common.{sym, refl, ap}
use Rattle.std.proofs.Common.{◌∙◌, subst, inl, inr, ⊎_elim, arith, length-set}
use Rattle.std.specs.List.{remove}
use Rattle.std.proofs.lemmas.Bool.{cases_eq}
use Rattle.std.proofs.lemmas.List.{get_or-set_same, get_or-set_other}
use Rattle.std.proofs.Math.Seq.{map-set_same}
use native.Mathlib.Decide.{dec_le}
use Rattle.std.proofs.Common.{lt_of_not-le}
use Rattle.atomic_table.specs.Seated.{TableId}
use Rattle.crossbeam_queue.specs.Passes.{Pass, view, IsPassOf}
use Rattle.crossbeam_queue.specs.declared.array_queue.Doing.{Doing}
use Rattle.crossbeam_queue.specs.declared.array_queue.Slotted.{Slotted}
use Rattle.smp_machine.specs.declared.work_queue.Item.{Item}
use Rattle.smp_machine.specs.declared.work_queue.Knows.{Knows}
use Rattle.smp_machine.specs.declared.work_queue.Knows.TheVariants.{Takes, Puts}
use Rattle.smp_machine.specs.declared.work_queue.PutNote.{PutNote}
use Rattle.smp_words.specs.Size.{cpus}
use Rattle.smp_machine.specs.Passes.{PassesValue, ids_of, put_of, noted_of, items_of, notes_of, passes_of, IsTakes}
use Rattle.smp_machine.specs.Passes.{IsPuts, AreHeld, IsTaker, AreTakers, AreSources}
use Rattle.smp_machine.specs.Passes.{AreGiven, AreFresh, fresh_passes, given_below, queue_ids}
use Rattle.smp_machine.proofs.Held.{index_map, length_map}

map-append : {A B : Type 0} (f : A → B) (xs ys : List A) → map f (xs ++ ys) ≡ map f xs ++ map f ys
map-append f [] ys = refl
map-append {B = B} f (x ∷ xs) ys = ap (λ (l : List B). f x ∷ l) (map-append f xs ys)

-- an element of a longer list is an old one or the last
at_end : {A : Type 0} (xs : List A) (x : A) (i : ℕ) (p : A) → i < length (xs ++ x ∷ []) → p ≡ slice_index_or (xs ++ x ∷ []) i p
    → ((i < length xs) × (p ≡ slice_index_or xs i p)) ⊎ ((i ≡ length xs) × (p ≡ x))
at_end [] x zero p l e = inr (refl, e)
at_end [] x (suc i) p l e = absurd (omega arith)
at_end (y ∷ ys) x zero p l e = inl (omega arith, e)
at_end (y ∷ ys) x (suc i) p l e = ⊎_elim (λ t. let a = t.0 in inl (omega arith, t.1)) (λ t. inr (ap suc t.0, t.1)) (at_end ys x i p (omega arith) e)

pub takers_more : (ids : List TableId) (takers : List (Pass Item Knows)) (p : Pass Item Knows) (id : TableId) → AreTakers ids (λ _. 0) takers
    → p.table_id ≡ id → p.me.1 ≡ []
    → view p ≡ Takes 0 [] → AreTakers (ids ++ id ∷ []) (λ _. 0) (takers ++ p ∷ [])
takers_more ids takers p id h same empty knows = record {
  ids_are = map-append (λ (y : Pass Item Knows). y.table_id) takers (p ∷ []) ∙ (λ k. h.ids_are k ++ same k ∷ []);
  each = λ i q l at. ⊎_elim
      (λ (t : (i < length takers) × (q ≡ slice_index_or takers i q)). h.each i q t.0 t.1)
      (λ (t : (i ≡ length takers) × (q ≡ p)). subst (IsTaker 0) (sym t.1) record { empty = empty; knows = knows })
      (at_end takers p i q l at);
}

below_is : (c s i : ℕ) → i < c → given_below c s i ≡ s + 1
below_is c s i l = grind arith

pub above_is : (c s i : ℕ) → c ≤ i → given_below c s i ≡ s
above_is c s i l = grind arith

same_below : (c s i : ℕ) → i ≢ c → given_below c s i ≡ given_below (c + 1) s i
same_below c s i n = elim (dec_le c i) [
  | yes l ↦ above_is c s i l ∙ sym (above_is (c + 1) s i (omega arith))
  | no m ↦ let k : i < c = lt_of_not-le m in below_is c s i k ∙ sym (below_is (c + 1) s i (omega arith))
]

-- one taker more has given the source its pass
pub takers_gave : (ids : List TableId) (takers : List (Pass Item Knows)) (c s : ℕ) (p q : Pass Item Knows) → AreTakers ids (given_below c s) takers
    → c < length takers
    → p ≡ slice_index_or takers c p → q.table_id ≡ p.table_id → q.me.1 ≡ [] → view q ≡ Takes (s + 1) []
    → AreTakers ids (given_below (c + 1) s) (slice_set takers c q)
takers_gave ids takers c s p q h below at same empty knows = record {
  ids_are = map-set_same (λ (y : Pass Item Knows). y.table_id) takers c q p (same ∙ ap (λ (y : Pass Item Knows). y.table_id) at) ∙ h.ids_are;
  each = λ i r l there. elim (cases_eq i c) [
    | inl e ↦ subst (λ (n : ℕ). IsTaker n r) (sym (below_is (c + 1) s i (omega arith)))
        (subst (IsTaker (s + 1)) (sym (there ∙ (ap (λ (k : ℕ). slice_index_or (slice_set takers c q) k r) e ∙ get_or-set_same takers c q r below)))
        record { empty = empty; knows = knows })
    | inr n ↦
        let short : i < length takers = subst (λ (m : ℕ). i < m) (length-set takers c q) l in
        let old = h.each i r short (there ∙ get_or-set_other takers c i q r n) in
        subst (λ (m : ℕ). IsTaker m r) (same_below c s i n) old
  ];
}

pub takers_as : (ids : List TableId) (takers : List (Pass Item Knows)) (f g : ℕ → ℕ) → ((i : ℕ) → i < length takers → f i ≡ g i) → AreTakers ids f takers
    → AreTakers ids g takers
takers_as ids takers f g e h =
    record { ids_are = h.ids_are; each = λ i p l at. subst (λ (n : ℕ). IsTaker n p) (e i l) (h.each i p l at) }

pub takers_after : (ids : List TableId) (takers : List (Pass Item Knows)) (c s : ℕ) → length takers ≤ c → AreTakers ids (given_below c s) takers
    → AreTakers ids (λ _. s + 1) takers
takers_after ids takers c s all h = takers_as ids takers (given_below c s) (λ _. s + 1) (λ i l. below_is c s i (omega arith)) h

take_next : {A : Type 0} (ids : List A) (c : ℕ) (x : A) → c < length ids → x ≡ slice_index_or ids c x → take (suc c) ids ≡ take c ids ++ x ∷ []
take_next [] c x l e = absurd (omega arith)
take_next (y ∷ ys) zero x l e = λ k. sym e k ∷ []
take_next {A} (y ∷ ys) (suc c) x l e = ap (λ (l : List A). y ∷ l) (take_next ys c x (omega arith) e)

take_more : {A : Type 0} (ids : List A) (c : ℕ) (x : A) → c < length ids → x ≡ slice_index_or ids c x → take (c + 1) ids ≡ take c ids ++ x ∷ []
take_more ids c x l e =
    let is : c + 1 ≡ suc c = omega arith in ap (λ (n : ℕ). take n ids) is ∙ take_next ids c x l e

pub sources_more : (ids : List TableId) (c s : ℕ) (to : List (Pass Item Knows)) (p : Pass Item Knows) → AreSources (take c ids) s to → c < length ids
    → p.table_id ≡ slice_index_or ids c p.table_id → p.me.1 ≡ [] → view p ≡ Puts s [] [] → AreSources (take (c + 1) ids) s (to ++ p ∷ [])
sources_more ids c s to p h below id empty knows = record {
  ids_are = map-append (λ (y : Pass Item Knows). y.table_id) to (p ∷ [])
      ∙ (ap (λ (l : List TableId). l ++ p.table_id ∷ []) h.ids_are ∙ sym (take_more ids c p.table_id below id));
  each = λ i q l at. ⊎_elim
      (λ (t : (i < length to) × (q ≡ slice_index_or to i q)). h.each i q t.0 t.1)
      (λ (t : (i ≡ length to) × (q ≡ p)). subst (λ (y : Pass Item Knows). (y.me.1 ≡ []) × (view y ≡ Puts s [] [])) (sym t.1) (empty, knows))
      (at_end to p i q l at);
}

pub takers_pushed : {Q A : Type 0} (queues queues' : List (Slotted (Option Item) (Doing Item Knows) Q A)) (queue : Slotted (Option Item) (Doing Item Knows) Q A)
    (takers takers' : List (Pass Item Knows)) (p : Pass Item Knows) → queues' ≡ queues ++ queue ∷ [] → takers' ≡ takers ++ p ∷ [] → IsPassOf queue p
    → view p ≡ Takes 0 [] → AreTakers (queue_ids queues) (λ _. 0) takers → AreTakers (queue_ids queues') (λ _. 0) takers'
takers_pushed queues queues' queue takers takers' p e f is knows h =
    let longer : queue_ids queues' ≡ queue_ids queues ++ queue.table.shared.table_id ∷ [] =
    ap queue_ids e ∙ map-append (λ q. q.table.shared.table_id) queues (queue ∷ []) in
    subst (λ (t : List TableId × List (Pass Item Knows)). AreTakers t.0 (λ _. 0) t.1) (λ i. (sym longer i, sym f i))
    (takers_more (queue_ids queues) takers p queue.table.shared.table_id h is.0 is.1 knows)

-- one source more has its passes
pub given_more : (ids : List TableId) (given : List (List (Pass Item Knows))) (s : ℕ) (to : List (Pass Item Knows)) → length given ≡ s → AreGiven ids 0 given
    → AreSources ids s to → AreGiven ids 0 (given ++ to ∷ [])
given_more ids given s to sized h is i p l at =
    let same : 0 + i ≡ i = omega arith in
    ⊎_elim
    (λ (t : (i < length given) × (p ≡ slice_index_or given i p)). h i p t.0 t.1)
    (λ (t : (i ≡ length given) × (p ≡ to)). subst (λ (n : ℕ). AreSources ids n p) (sym (same ∙ (t.0 ∙ sized))) (subst (AreSources ids s) (sym t.1) is))
    (at_end given to i p l at)

-- the takers' passes that are left, from that of this CPU on, once all sources have theirs
pub AreLeft : List TableId → ℕ → List (Pass Item Knows) → Type 0
AreLeft ids first takers = (i : ℕ) (p : Pass Item Knows) → i < length takers → p ≡ slice_index_or takers i p
    → IsTaker cpus p × (p.table_id ≡ slice_index_or ids (first + i) p.table_id)

pub left_all : (ids : List TableId) (takers : List (Pass Item Knows)) → AreTakers ids (λ _. cpus) takers → AreLeft ids 0 takers
unfolding AreLeft
left_all ids takers h i p l at =
    let id : slice_index_or (ids_of takers) i p.table_id ≡ p.table_id = index_map (λ (y : Pass Item Knows). y.table_id) takers i p p.table_id l at in
    let same : i ≡ 0 + i = omega arith in
    (h.each i p l at, sym id ∙ (ap (λ (l : List TableId). slice_index_or l i p.table_id) h.ids_are ∙ ap (λ (n : ℕ). slice_index_or ids n p.table_id) same))

-- what follows the first
after_first : {A : Type 0} (xs : List A) (i : ℕ) (p : A) → slice_index_or (remove xs 0) i p ≡ slice_index_or xs (suc i) p
after_first [] i p = refl
after_first (x ∷ xs) i p = refl

first_less : {A : Type 0} (xs : List A) (i : ℕ) → i < length (remove xs 0) → suc i < length xs
first_less [] i l = absurd (omega arith)
first_less (x ∷ xs) i l = omega arith

pub left_rest : (ids : List TableId) (first : ℕ) (takers : List (Pass Item Knows)) → AreLeft ids first takers → AreLeft ids (first + 1) (remove takers 0)
unfolding AreLeft
left_rest ids first takers h i p l at =
    let t = h (suc i) p (first_less takers i l) (at ∙ after_first takers i p) in
    let same : first + suc i ≡ first + 1 + i = omega arith in
    (t.0, t.1 ∙ ap (λ (n : ℕ). slice_index_or ids n p.table_id) same)

pub left_first : (ids : List TableId) (first : ℕ) (takers : List (Pass Item Knows)) (p : Pass Item Knows) → AreLeft ids first takers → 0 < length takers
    → p ≡ slice_index_or takers 0 p → IsTaker cpus p × (p.table_id ≡ slice_index_or ids first p.table_id)
unfolding AreLeft
left_first ids first takers p h l at =
    let t = h 0 p l at in
    let same : first + 0 ≡ first = omega arith in
    (t.0, t.1 ∙ ap (λ (n : ℕ). slice_index_or ids n p.table_id) same)

pub given_rest : (ids : List TableId) (first : ℕ) (given : List (List (Pass Item Knows))) → AreGiven ids first given → AreGiven ids (first + 1) (remove given 0)
given_rest ids first given h i to l at =
    let t = h (suc i) to (first_less given i l) (at ∙ after_first given i to) in
    let same : first + suc i ≡ first + 1 + i = omega arith in
    subst (λ (n : ℕ). AreSources ids n to) same t

pub given_first : (ids : List TableId) (first : ℕ) (given : List (List (Pass Item Knows))) (to : List (Pass Item Knows)) → AreGiven ids first given
    → 0 < length given
    → to ≡ slice_index_or given 0 to → AreSources ids first to
given_first ids first given to h l at =
    let same : first + 0 ≡ first = omega arith in
    subst (λ (n : ℕ). AreSources ids n to) same (h 0 to l at)

-- a CPU's passes, as they are put together
module _ (ids : List TableId) (number : ℕ) (to : List (Pass Item Knows)) (own : Pass Item Knows) (sized : length ids ≡ cpus) (below : number < cpus)
    (sources : AreSources ids number to) (taker : IsTaker cpus own) (there : own.table_id ≡ slice_index_or ids number own.table_id) where
  to_sized : length to ≡ cpus
  to_sized = sym (length_map (λ (p : Pass Item Knows). p.table_id) to) ∙ (ap length sources.ids_are ∙ sized)

  pub held : AreHeld number to own
  held = record {
    below = below;
    sized = to_sized;
    sources = λ i p l at.
        let t = sources.each i p (subst (λ (n : ℕ). i < n) (sym to_sized) l) at in
        record { empty = t.0; puts = subst (IsPuts number) (sym t.1) refl };
    own_empty = taker.empty;
    own_takes = subst IsTakes (sym taker.knows) tt;
    own_queue = there ∙ ap (λ (l : List TableId). slice_index_or l number own.table_id) (sym sources.ids_are);
  }

put_none : (source : ℕ) (to : List (Pass Item Knows)) → ((i : ℕ) (p : Pass Item Knows) → i < length to → p ≡ slice_index_or to i p → view p ≡ Puts source [] [])
    → put_of to ≡ map (λ id. []) (ids_of to)
put_none source [] each = refl
put_none source (p ∷ more) each =
    let here : items_of (view p) ≡ [] = ap items_of (each 0 p (omega arith) refl) in
    λ k. here k ∷ put_none source more (λ i q l at. each (suc i) q (omega arith) at) k

noted_none : (source : ℕ) (to : List (Pass Item Knows))
    → ((i : ℕ) (p : Pass Item Knows) → i < length to → p ≡ slice_index_or to i p → view p ≡ Puts source [] []) → noted_of to ≡ map (λ id. []) (ids_of to)
noted_none source [] each = refl
noted_none source (p ∷ more) each =
    let here : notes_of (view p) ≡ [] = ap notes_of (each 0 p (omega arith) refl) in
    λ k. here k ∷ noted_none source more (λ i q l at. each (suc i) q (omega arith) at) k

pub held_fresh : (ids : List TableId) (number : ℕ) (to : List (Pass Item Knows)) (own : Pass Item Knows) → AreSources ids number to → IsTaker cpus own
    → passes_of number to own ≡ fresh_passes ids number
held_fresh ids number to own sources taker =
    let put : put_of to ≡ map (λ id. []) ids =
    put_none number to (λ i p l at. (sources.each i p l at).1) ∙ ap (λ (l : List TableId). map {B = List Item} (λ id. []) l) sources.ids_are in
    let noted : noted_of to ≡ map (λ id. []) ids =
    noted_none number to (λ i p l at. (sources.each i p l at).1) ∙ ap (λ (l : List TableId). map {B = List PutNote} (λ id. []) l) sources.ids_are in
    λ k. record { queues = sources.ids_are k; number = number; put = put k; noted = noted k; taken = items_of (taker.knows k) }

pub fresh_none : (ids : List TableId) → AreFresh ids 0 []
fresh_none ids i p l at = absurd (omega arith)

pub fresh_more : (ids : List TableId) (passes : List PassesValue) (n : ℕ) (x : PassesValue) → length passes ≡ n → AreFresh ids 0 passes → x ≡ fresh_passes ids n
    → AreFresh ids 0 (passes ++ x ∷ [])
fresh_more ids passes n x sized h is i p l at =
    let same : 0 + i ≡ i = omega arith in
    ⊎_elim
    (λ (t : (i < length passes) × (p ≡ slice_index_or passes i p)). h i p t.0 t.1)
    (λ (t : (i ≡ length passes) × (p ≡ x)). t.1 ∙ (is ∙ ap (fresh_passes ids) (sym (same ∙ (t.0 ∙ sized)))))
    (at_end passes x i p l at)

pub fresh_rest : (ids : List TableId) (first : ℕ) (passes : List PassesValue) → AreFresh ids first passes → AreFresh ids (first + 1) (remove passes 0)
fresh_rest ids first passes h i p l at =
    let t = h (suc i) p (first_less passes i l) (at ∙ after_first passes i p) in
    let same : first + suc i ≡ first + 1 + i = omega arith in
    t ∙ ap (fresh_passes ids) same
