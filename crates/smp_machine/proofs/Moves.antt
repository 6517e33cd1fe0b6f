-- Each move keeps the rule of a queue.
use Rattle.std.proofs.Common.{◌≡◌, ◌≢◌, ◌⊎◌, ℕ, zero, suc, ◌+◌, ◌<◌, ◌==◌, if◌then◌else◌, Bool, true, false, List, [], ◌∷◌, ◌++◌, length, set, sym, refl}
use Rattle.std.proofs.Common.{ap, ◌∙◌, subst, inl, inr, ⊎_elim, append_assoc, arith}
use Rattle.std.proofs.lemmas.Bool.{cases_eq, ne_eqb, eq-eqb}
use Rattle.std.proofs.lemmas.List.{append-nil}
use mathlib.Core.Option.{Option, some, some-injective, some-ne-none}
use lib.ListN.{get_elem?}
use Rattle.crossbeam_queue.specs.Fifo.{Pushes, Pops, Forks}
use Rattle.crossbeam_queue.proofs.Lists.{at_set, set_else, at_longer, at_last}
use Rattle.smp_machine.specs.declared.work_queue.Item.{Item}
use Rattle.smp_machine.specs.declared.work_queue.Knows.{Knows}
use Rattle.smp_machine.specs.declared.work_queue.Knows.TheVariants.{Takes, Puts}
use Rattle.smp_machine.specs.declared.work_queue.PutNote.{PutNote}
use Rattle.smp_machine.specs.WorkQueue.{items_by, IsAtPort, IsInOrder, gives, given, puts_more, takes_more, IsKnown}

if-append : (b : Bool) (x : Item) (xs ys zs : List Item) → zs ≡ xs ++ ys → (if b then x ∷ zs else zs) ≡ (if b then x ∷ xs else xs) ++ ys
if-append true x xs ys zs e = ap (λ (l : List Item). x ∷ l) e
if-append false x xs ys zs e = e

items_by-append : (s : ℕ) (xs ys : List Item) → items_by s (xs ++ ys) ≡ items_by s xs ++ items_by s ys
items_by-append s [] ys = refl
items_by-append s (x ∷ xs) ys = if-append (x.slot == s) x (items_by s xs) (items_by s ys) (items_by s (xs ++ ys)) (items_by-append s xs ys)

longer : (s : ℕ) (taken items : List Item) (x : Item) → items_by s (taken ++ (items ++ x ∷ [])) ≡ items_by s (taken ++ items) ++ items_by s (x ∷ [])
longer s taken items x = ap (items_by s) (sym (append_assoc taken items (x ∷ []))) ∙ items_by-append s (taken ++ items) (x ∷ [])

put_mine : (s : ℕ) (taken items : List Item) (x : Item) → x.slot ≡ s → items_by s (taken ++ (items ++ x ∷ [])) ≡ items_by s (taken ++ items) ++ x ∷ []
put_mine s taken items x e =
    let own : items_by s (x ∷ []) ≡ x ∷ [] = rw (eq-eqb x.slot s e) refl in
    longer s taken items x ∙ ap (λ (l : List Item). items_by s (taken ++ items) ++ l) own

put_else : (s : ℕ) (taken items : List Item) (x : Item) → x.slot ≢ s → items_by s (taken ++ (items ++ x ∷ [])) ≡ items_by s (taken ++ items)
put_else s taken items x n =
    let other : items_by s (x ∷ []) ≡ [] = rw (ne_eqb x.slot s n) refl in
    longer s taken items x ∙ (ap (λ (l : List Item). items_by s (taken ++ items) ++ l) other ∙ append-nil (items_by s (taken ++ items)))

set_there : {A : Type 0} (l : List A) (i : ℕ) (a b : A) → get_elem? l i ≡ some a → get_elem? (set l i b) i ≡ some b
set_there [] i a b e = absurd (some-ne-none a (sym e))
set_there (x ∷ xs) zero a b e = refl
set_there (x ∷ xs) (suc i) a b e = set_there xs i a b e

at_end : {A : Type 0} (l : List A) (a b : A) (j : ℕ) → get_elem? (l ++ a ∷ []) j ≡ some b → (get_elem? l j ≡ some b) ⊎ ((j ≡ length l) × (a ≡ b))
at_end [] a b zero e = inr (refl, some-injective a b e)
at_end [] a b (suc j) e = absurd (some-ne-none b (sym e))
at_end (x ∷ xs) a b zero e = inl e
at_end (x ∷ xs) a b (suc j) e = ⊎_elim (λ t. inl t) (λ t. inr (ap suc t.0, t.1)) (at_end xs a b j e)

-- two passes at one port are one
same_there : (views : List Knows) (p q : ℕ) (v w : Knows) → get_elem? views p ≡ some v → get_elem? views q ≡ some w → p ≡ q → v ≡ w
same_there views p q v w here there e = some-injective v w (sym here ∙ (ap (λ (n : ℕ). get_elem? views n) e ∙ there))

IsTaker : Knows → Type 0
IsTaker (Takes n l) = Unit {0}
IsTaker (Puts s l notes) = ⊥

source_in : Knows → ℕ
source_in (Takes n l) = 0
source_in (Puts s l notes) = s

no_source : (n s : ℕ) (k l : List Item) (notes : List PutNote) → Takes n k ≢ Puts s l notes
unfolding IsTaker
no_source n s k l notes e = subst IsTaker e tt

one_source : (s t : ℕ) (k l : List Item) (a b : List PutNote) → Puts s k a ≡ Puts t l b → s ≡ t
unfolding source_in
one_source s t k l a b e = ap source_in e

-- of passes that differ the ports do too
module _ (items : List Item) (views : List Knows) (h : IsInOrder items views) where
  taker_apart : (port s : ℕ) (l : List Item) (notes : List PutNote) → get_elem? views port ≡ some (Puts s l notes) → h.taker ≢ port
  taker_apart port s l notes at e =
      no_source h.next s h.taken l notes (same_there views h.taker port (Takes h.next h.taken) (Puts s l notes) h.takes at e)

  source_apart : (port s t : ℕ) (l : List Item) (notes : List PutNote) → get_elem? views port ≡ some (Puts s l notes) → t < h.next → t ≢ s → h.port t ≢ port
  source_apart port s t l notes at below n e =
      let other = h.puts t below in
      n (one_source t s _ l other.0 notes
      (same_there views (h.port t) port (Puts t (items_by t (h.taken ++ items)) other.0) (Puts s l notes) other.1 at e))

  not_taker : (port n t : ℕ) (l : List Item) → get_elem? views port ≡ some (Takes n l) → t < h.next → h.port t ≢ port
  not_taker port n t l at below e =
      let other = h.puts t below in
      no_source n t l _ other.0 (sym (same_there views (h.port t) port (Puts t (items_by t (h.taken ++ items)) other.0) (Takes n l) other.1 at e))

-- a pass that is not the source's own
stays : (items : List Item) (views : List Knows) (h : IsInOrder items views) (port s : ℕ) (x : Item) → x.slot ≡ s → h.port s ≡ port → (q : ℕ) (u : Knows)
    → q ≢ port
    → IsAtPort h.taker h.port h.next h.taken items q u → IsAtPort h.taker h.port h.next h.taken (items ++ x ∷ []) q u
stays items views h port s x own mine q (Takes n l) other f = f
stays items views h port s x own mine q (Puts t l notes) other f =
    (f.0, f.1, f.2 ∙ sym (put_else t h.taken items x (λ e. other (f.0 ∙ (ap h.port (sym e ∙ own) ∙ mine)))))

-- a source puts an item
module _ (note : PutNote) (port s : ℕ) (l : List Item) (notes : List PutNote) (x : Item) (own : x.slot ≡ s) (items : List Item) (views : List Knows)
    (h : IsInOrder items views) (at : get_elem? views port ≡ some (Puts s l notes)) where
  abbrev puts_now : Knows
  puts_now = Puts s (l ++ x ∷ []) (notes ++ note ∷ [])

  abbrev put_views : List Knows
  put_views = set views port puts_now

  put_by : (mine : (port ≡ h.port s) × (s < h.next) × (l ≡ items_by s (h.taken ++ items))) (t : ℕ) → t < h.next → (t ≡ s) ⊎ (t ≢ s)
      → (k : List PutNote) × (get_elem? put_views (h.port t) ≡ some (Puts t (items_by t (h.taken ++ (items ++ x ∷ []))) k))
  put_by mine t below (inl e) =
      let there : get_elem? put_views port ≡ some puts_now = set_there views port (Puts s l notes) puts_now at in
      let more : l ++ x ∷ [] ≡ items_by s (h.taken ++ (items ++ x ∷ [])) =
      ap (λ (k : List Item). k ++ x ∷ []) mine.2 ∙ sym (put_mine s h.taken items x own) in (
        notes ++ note ∷ [],
        subst (λ (n : ℕ). get_elem? put_views (h.port n) ≡ some (Puts n (items_by n (h.taken ++ (items ++ x ∷ []))) (notes ++ note ∷ []))) (sym e)
            (ap (λ (n : ℕ). get_elem? put_views n) (sym mine.0) ∙ (there ∙ ap (λ (k : List Item). some (Puts s k (notes ++ note ∷ []))) more)),
      )
  put_by mine t below (inr n) =
      let other = h.puts t below in (
        other.0,
        set_else views port (h.port t) puts_now (source_apart items views h port s t l notes at below n)
            ∙ (other.1 ∙ ap (λ (k : List Item). some (Puts t k other.0)) (sym (put_else t h.taken items x (λ e. n (sym e ∙ own))))),
      )

  put_in_order : IsInOrder (items ++ x ∷ []) put_views
  put_in_order =
      let mine : (port ≡ h.port s) × (s < h.next) × (l ≡ items_by s (h.taken ++ items)) = h.each port (Puts s l notes) at in
      record {
        taker = h.taker;
        port = h.port;
        next = h.next;
        taken = h.taken;
        takes = set_else views port h.taker puts_now (taker_apart items views h port s l notes at) ∙ h.takes;
        puts = λ t below. put_by mine t below (cases_eq t s);
        each = λ q u e. ⊎_elim
            (λ (t : (q ≡ port) × (puts_now ≡ u)). subst (λ (y : Knows). IsAtPort h.taker h.port h.next h.taken (items ++ x ∷ []) q y) t.1
            (t.0 ∙ mine.0, mine.1, ap (λ (k : List Item). k ++ x ∷ []) mine.2 ∙ sym (put_mine s h.taken items x own)))
            (λ (t : (q ≢ port) × (get_elem? views q ≡ some u)). stays items views h port s x own (sym mine.0) q u t.0 (h.each q u t.1))
            (at_set views port q puts_now u e);
        fresh = λ t le. put_else t h.taken items x (λ e. let small : s < h.next = mine.1 in let same : t ≡ s = sym e ∙ own in omega arith) ∙ h.fresh t le;
      }

puts_as : (note : PutNote) (n port s : ℕ) (l : List Item) (notes : List PutNote) (x : Item) → x.slot ≡ s
    → Pushes IsInOrder n port (Puts s l notes) x (λ w. (w ≡ Puts s (l ++ x ∷ []) (notes ++ note ∷ [])) × IsKnown w)
puts_as note n port s l notes x own items views room h at =
    let w : Knows = Puts s (l ++ x ∷ []) (notes ++ note ∷ []) in
    let after = put_in_order note port s l notes x own items views h at in
    let here = set_there views port (Puts s l notes) w at in
    (w, after, (refl, record { items = items ++ x ∷ []; views = set views port w; port = port; in_order = after; at = here }))

pub puts : (note : PutNote) (n port : ℕ) (v : Knows) (s : ℕ) (l : List Item) (notes : List PutNote) (x : Item) → v ≡ Puts s l notes → x.slot ≡ s
    → Pushes IsInOrder n port v x (λ w. (w ≡ puts_more note v x) × IsKnown w)
puts note n port v s l notes x is own =
    subst (λ (y : Knows). Pushes IsInOrder n port y x (λ w. (w ≡ puts_more note y x) × IsKnown w)) (sym is) (puts_as note n port s l notes x own)

moves : (taker : ℕ) (port : ℕ → ℕ) (next : ℕ) (taken items : List Item) (x : Item) (q : ℕ) (u : Knows) → q ≢ taker
    → IsAtPort taker port next taken (x ∷ items) q u
    → IsAtPort taker port next (taken ++ x ∷ []) items q u
moves taker port next taken items x q (Takes n l) other f = absurd (other f.0)
moves taker port next taken items x q (Puts t l notes) other f = (f.0, f.1, f.2 ∙ ap (items_by t) (sym (append_assoc taken (x ∷ []) items)))

-- the taker takes the front
module _ (port n : ℕ) (l : List Item) (x : Item) (items : List Item) (views : List Knows) (h : IsInOrder (x ∷ items) views)
    (at : get_elem? views port ≡ some (Takes n l)) where
  abbrev taken_views : List Knows
  taken_views = set views port (Takes n (l ++ x ∷ []))

  taken_in_order : IsInOrder items taken_views
  taken_in_order =
      let mine : (port ≡ h.taker) × (n ≡ h.next) × (l ≡ h.taken) = h.each port (Takes n l) at in
      let there : get_elem? taken_views port ≡ some (Takes n (l ++ x ∷ [])) = set_there views port (Takes n l) (Takes n (l ++ x ∷ [])) at in
      record {
        taker = h.taker;
        port = h.port;
        next = h.next;
        taken = h.taken ++ x ∷ [];
        takes = ap (λ (m : ℕ). get_elem? taken_views m) (sym mine.0) ∙ (there ∙ (λ i. some (Takes (mine.1 i) (mine.2 i ++ x ∷ []))));
        puts = λ t below.
            let other = h.puts t below in (
              other.0,
              set_else views port (h.port t) (Takes n (l ++ x ∷ [])) (not_taker (x ∷ items) views h port n t l at below)
                  ∙ (other.1 ∙ ap (λ (k : List Item). some (Puts t (items_by t k) other.0)) (sym (append_assoc h.taken (x ∷ []) items))),
            );
        each = λ q u e. ⊎_elim
            (λ (t : (q ≡ port) × (Takes n (l ++ x ∷ []) ≡ u)). subst (λ (y : Knows). IsAtPort h.taker h.port h.next (h.taken ++ x ∷ []) items q y) t.1
            (t.0 ∙ mine.0, mine.1, ap (λ (k : List Item). k ++ x ∷ []) mine.2))
            (λ (t : (q ≢ port) × (get_elem? views q ≡ some u)). moves h.taker h.port h.next h.taken items x q u (λ e. t.0 (e ∙ sym mine.0)) (h.each q u t.1))
            (at_set views port q (Takes n (l ++ x ∷ [])) u e);
        fresh = λ t le. ap (items_by t) (append_assoc h.taken (x ∷ []) items) ∙ h.fresh t le;
      }

takes_as : (port n : ℕ) (l : List Item) → Pops IsInOrder port (Takes n l) (λ x w. (w ≡ Takes n (l ++ x ∷ [])) × IsKnown w)
takes_as port n l x items views h at =
    let w : Knows = Takes n (l ++ x ∷ []) in
    let after = taken_in_order port n l x items views h at in
    (w, after, (refl, record { items = items; views = set views port w; port = port; in_order = after; at = set_there views port (Takes n l) w at }))

pub takes : (port : ℕ) (v : Knows) (n : ℕ) (l : List Item) → v ≡ Takes n l → Pops IsInOrder port v (λ x w. (w ≡ takes_more v x) × IsKnown w)
takes port v n l is = subst (λ (y : Knows). Pops IsInOrder port y (λ x w. (w ≡ takes_more y x) × IsKnown w)) (sym is) (takes_as port n l)

-- the ports once source n has the pass at p
ported : (ℕ → ℕ) → ℕ → ℕ → ℕ → ℕ
ported port n p s = if s == n then p else port s

ported_mine : (port : ℕ → ℕ) (n p : ℕ) → ported port n p n ≡ p
unfolding ported
ported_mine port n p = rw (eq-eqb n n refl) refl

ported_else : (port : ℕ → ℕ) (n p s : ℕ) → s ≢ n → ported port n p s ≡ port s
unfolding ported
ported_else port n p s other = rw (ne_eqb s n other) refl

seated : (taker : ℕ) (port : ℕ → ℕ) (n p : ℕ) (taken items : List Item) (q : ℕ) (u : Knows) → q ≢ taker → IsAtPort taker port n taken items q u
    → IsAtPort taker (ported port n p) (n + 1) taken items q u
seated taker port n p taken items q (Takes m l) other f = absurd (other f.0)
seated taker port n p taken items q (Puts t l notes) other f =
    let small : t < n = f.1 in (f.0 ∙ sym (ported_else port n p t (λ e. omega arith)), omega arith, f.2)

-- the taker gives the next source its pass
module _ (port n : ℕ) (l : List Item) (items : List Item) (views : List Knows) (h : IsInOrder items views)
    (at : get_elem? views port ≡ some (Takes n l)) where
  abbrev given_views : List Knows
  given_views = set views port (Takes (n + 1) l)

  abbrev given_at : ℕ → Option Knows
  given_at m = get_elem? (given_views ++ Puts n [] [] ∷ []) (ported h.port n (length given_views) m)

  put_before : n ≡ h.next → (t : ℕ) → t < n + 1 → (t ≡ n) ⊎ (t ≢ n)
      → (k : List PutNote)
      × (get_elem? (given_views ++ Puts n [] [] ∷ []) (ported h.port n (length given_views) t) ≡ some (Puts t (items_by t (h.taken ++ items)) k))
  put_before same t below (inl e) =
      let none : items_by n (h.taken ++ items) ≡ [] = h.fresh n (omega arith) in (
        [],
        subst (λ (m : ℕ). given_at m ≡ some (Puts m (items_by m (h.taken ++ items)) []))
            (sym e)
            (ap (λ (m : ℕ). get_elem? (given_views ++ Puts n [] [] ∷ []) m) (ported_mine h.port n (length given_views))
            ∙ (at_last given_views (Puts n [] []) (length given_views) refl ∙ ap (λ (k : List Item). some (Puts n k [])) (sym none))),
      )
  put_before same t below (inr other) =
      let low : t < h.next = omega arith in
      let its = h.puts t low in (
        its.0,
        ap (λ (m : ℕ). get_elem? (given_views ++ Puts n [] [] ∷ []) m) (ported_else h.port n (length given_views) t other)
            ∙ at_longer given_views (Puts n [] [] ∷ []) (h.port t) (Puts t (items_by t (h.taken ++ items)) its.0)
            (set_else views port (h.port t) (Takes (n + 1) l) (not_taker items views h port n t l at low) ∙ its.1),
      )

  given_in_order : IsInOrder items (given_views ++ Puts n [] [] ∷ [])
  given_in_order =
      let mine : (port ≡ h.taker) × (n ≡ h.next) × (l ≡ h.taken) = h.each port (Takes n l) at in
      let p : ℕ = length given_views in
      let there : get_elem? given_views port ≡ some (Takes (n + 1) l) = set_there views port (Takes n l) (Takes (n + 1) l) at in
      let old : (q : ℕ) (u : Knows) → get_elem? views q ≡ some u → IsAtPort h.taker h.port n h.taken items q u =
      λ q u e. subst (λ (m : ℕ). IsAtPort h.taker h.port m h.taken items q u) (sym mine.1) (h.each q u e) in
      record {
        taker = h.taker;
        port = ported h.port n p;
        next = n + 1;
        taken = h.taken;
        takes = at_longer given_views (Puts n [] [] ∷ []) h.taker (Takes (n + 1) h.taken)
            (ap (λ (m : ℕ). get_elem? given_views m) (sym mine.0) ∙ (there ∙ ap (λ (k : List Item). some (Takes (n + 1) k)) mine.2));
        puts = λ t below. put_before mine.1 t below (cases_eq t n);
        each = λ q u e. ⊎_elim
            (λ (there : get_elem? given_views q ≡ some u). ⊎_elim
            (λ (t : (q ≡ port) × (Takes (n + 1) l ≡ u)). subst (λ (y : Knows). IsAtPort h.taker (ported h.port n p) (n + 1) h.taken items q y) t.1
            (t.0 ∙ mine.0, refl, mine.2))
            (λ (t : (q ≢ port) × (get_elem? views q ≡ some u)). seated h.taker h.port n p h.taken items q u (λ x. t.0 (x ∙ sym mine.0)) (old q u t.1))
            (at_set views port q (Takes (n + 1) l) u there))
            (λ (t : (q ≡ p) × (Puts n [] [] ≡ u)). subst (λ (y : Knows). IsAtPort h.taker (ported h.port n p) (n + 1) h.taken items q y) t.1
            (t.0 ∙ sym (ported_mine h.port n p), omega arith, sym (h.fresh n (let same : n ≡ h.next = mine.1 in omega arith))))
            (at_end given_views (Puts n [] []) u q e);
        fresh = λ t le. h.fresh t (let same : n ≡ h.next = mine.1 in omega arith);
      }

forks_as : (port n : ℕ) (l : List Item) → Forks IsInOrder port (Takes n l) (Takes (n + 1) l) (Puts n [] [])
forks_as port n l items views h at = given_in_order port n l items views h at

pub forks : (port : ℕ) (v : Knows) (n : ℕ) (l : List Item) → v ≡ Takes n l → Forks IsInOrder port v (gives v) (given v)
forks port v n l is = subst (λ (y : Knows). Forks IsInOrder port y (gives y) (given y)) (sym is) (forks_as port n l)

at_one : (a b : Knows) (q : ℕ) → get_elem? (a ∷ []) q ≡ some b → (q ≡ 0) × (a ≡ b)
at_one a b zero e = (refl, some-injective a b e)
at_one a b (suc q) e = absurd (some-ne-none b (sym e))

-- a new queue
pub begins : IsInOrder [] (Takes 0 [] ∷ [])
begins = record {
  taker = 0;
  port = λ _. 0;
  next = 0;
  taken = [];
  takes = refl;
  puts = λ s below. absurd (omega arith);
  each = λ q u e. let t = at_one (Takes 0 []) u q e in subst (λ (y : Knows). IsAtPort 0 (λ _. 0) 0 [] [] q y) t.1 (t.0, refl, refl);
  fresh = λ _ _. refl;
}
