-- What comes of a text: the mask of its CPU list, or where it goes wrong.
use Rattle.std.proofs.Common.{◌≡◌, ℕ, zero, suc, ◌+◌, ◌^◌, ◌<◌, ◌≤◌, List, [], ◌∷◌, ◌++◌, length, append_assoc, append-nil, take, refl, sym, ap, subst, ◌∙◌}
use Rattle.std.proofs.Common.{Option, Some, None, Result, Ok, Err, IfOk, IfErr, ◌⊎◌, ◌||◌, inl, inr, arith}
use Rattle.smp_mask.specs.Mask.{has}
use Rattle.smp_mask.specs.CpuList.{IsListOf, IsFront, IsMaskOf, IsRefusedAt, names}
use Rattle.smp_mask.specs.Reading.{step, finished, or_refused, read_from, mask_of_text, answered}
use Rattle.smp_mask.specs.declared.error.SmpError.{SmpError}
use Rattle.smp_mask.specs.declared.error.SmpError.TheVariants.{BadMask}
use Rattle.smp_mask.specs.declared.item.Item.{Item}
use Rattle.smp_mask.specs.declared.parse.Place.TheVariants.{Start}
use Rattle.smp_mask.specs.declared.parse.Reader.{Reader}
use Rattle.smp_mask.proofs.Accepts.{reads_list, with_items, has_items}
use Rattle.smp_mask.proofs.Sets.{has_none}
use Rattle.smp_mask.proofs.Fronts.{At, at_start, at_front, at_step, at_end}

-- an answer that comes is one of what was asked
or_ok : {A : Type 0} (at : ℕ) (go : A → Result ℕ SmpError) (o : Option A) (m : ℕ) → or_refused at go o ≡ Ok m → (x : A) × (o ≡ Some x) × (go x ≡ Ok m)
or_ok at go None m h = cc
or_ok at go (Some x) m h = (x, refl, h)

-- a text that reads to its end is a CPU list
walk_ok : (w : ℕ) → w < 2 ^ 64 → (bs : List ℕ) (r : Reader) (text : List ℕ) (at m : ℕ) → At w r.place text → read_from w r at bs ≡ Ok m
    → (items : List Item) × IsListOf w (text ++ bs) items
unfolding read_from
walk_ok w wide [] r text at m a h =
    let end = or_ok at (λ mask. Ok mask) (finished r.place r.mask) m h in
    subst (λ z. (items : List Item) × IsListOf w z items) (sym (append-nil text)) (at_end w r.place r.mask end.0 text a end.1)
walk_ok w wide (b ∷ bs) r text at m a h =
    let on = or_ok at (λ q. read_from w q (at + 1) bs) (step w r b) m h in
    subst (λ z. (items : List Item) × IsListOf w z items) (append_assoc text (b ∷ []) bs)
    (walk_ok w wide bs on.0 (text ++ b ∷ []) (at + 1) m (at_step w r on.0 b text wide a on.1) on.2)

-- where a text goes wrong: after q bytes more, and whatever comes then
record Stops (w : ℕ) (r : Reader) (text : List ℕ) (at : ℕ) (bs : List ℕ) (e : SmpError) : Type 0 where
  pub q : ℕ
  pub error : e ≡ BadMask (at + q)
  pub within : q ≤ length bs
  pub front : IsFront w (text ++ take q bs)
  pub after : (k : ℕ) (more : List ℕ) → q < k → k ≤ length bs → read_from w r at (take k bs ++ more) ≡ Err e

or_err : {A : Type 0} (at : ℕ) (go : A → Result ℕ SmpError) (o : Option A) (e : SmpError) → or_refused at go o ≡ Err e
    → ((o ≡ None) × (e ≡ BadMask at)) ⊎ ((x : A) × (o ≡ Some x) × (go x ≡ Err e))
or_err at go None e h = inl (refl, cc)
or_err at go (Some x) e h = inr (x, refl, h)

-- the same step is made whatever the text goes on with
after_none : (w : ℕ) (r : Reader) (at : ℕ) (b : ℕ) (bs : List ℕ) (e : SmpError) → step w r b ≡ None → e ≡ BadMask at → (k : ℕ) (more : List ℕ) → 0 < k
    → read_from w r at (take k (b ∷ bs) ++ more) ≡ Err e
unfolding read_from
after_none w r at b bs e none is zero more h = absurd (omega arith)
after_none w r at b bs e none is (suc k) more h = rw (none, is) refl

after_some : (w : ℕ) (r q : Reader) (at : ℕ) (b : ℕ) (bs : List ℕ) (e : SmpError) (n : ℕ) → step w r b ≡ Some q
    → ((k : ℕ) (more : List ℕ) → n < k → k ≤ length bs → read_from w q (at + 1) (take k bs ++ more) ≡ Err e) → (k : ℕ) (more : List ℕ) → suc n < k
    → k ≤ length (b ∷ bs) → read_from w r at (take k (b ∷ bs) ++ more) ≡ Err e
unfolding read_from
after_some w r q at b bs e n some rest zero more low high = absurd (omega arith)
after_some w r q at b bs e n some rest (suc k) more low high = rw some (rest k more (omega arith) (omega arith))

here : (w : ℕ) → 0 < w → w < 2 ^ 64 → (r : Reader) (text : List ℕ) → At w r.place text → IsFront w (text ++ [])
here w some wide r text a = subst (λ z. IsFront w z) (sym (append-nil text)) (at_front w r.place text some wide a)

walk_err : (w : ℕ) → 0 < w → w < 2 ^ 64 → (bs : List ℕ) (r : Reader) (text : List ℕ) (at : ℕ) (e : SmpError) → At w r.place text → read_from w r at bs ≡ Err e
    → Stops w r text at bs e
unfolding read_from
walk_err w some wide [] r text at e a h = elim (or_err at (λ mask. Ok mask) (finished r.place r.mask) e h) [
  | inl none ↦
      record {
        q = 0;
        error = none.1 ∙ ap BadMask (omega arith);
        within = omega arith;
        front = here w some wide r text a;
        after = λ k more low high. absurd (omega arith);
      }
  | inr x ↦ let bad = x.2 in cc
]
walk_err w some wide (b ∷ bs) r text at e a h = elim (or_err at (λ q. read_from w q (at + 1) bs) (step w r b) e h) [
  | inl none ↦
      record {
        q = 0;
        error = none.1 ∙ ap BadMask (omega arith);
        within = omega arith;
        front = here w some wide r text a;
        after = λ k more low high. after_none w r at b bs e none.0 none.1 k more low;
      }
  | inr x ↦
      let s = walk_err w some wide bs x.0 (text ++ b ∷ []) (at + 1) e (at_step w r x.0 b text wide a x.1) x.2 in
      record {
        q = suc s.q;
        error = s.error ∙ ap BadMask (omega arith);
        within = omega (arith, s.within);
        front = subst (λ z. IsFront w z) (append_assoc text (b ∷ []) (take s.q bs)) s.front;
        after = after_some w r x.0 at b bs e s.q x.1 s.after;
      }
]

-- ---- the text as a whole

-- a CPU list reads as a mask of its items
reads_as : (w : ℕ) → w < 2 ^ 64 → (text : List ℕ) (items : List Item) → IsListOf w text items → mask_of_text w text ≡ Ok (with_items 0 items)
reads_as w wide text items list = ap (mask_of_text w) list.text_is ∙ reads_list w wide items list.items_are

set_of : (w : ℕ) → w < 2 ^ 64 → (text : List ℕ) (m : ℕ) → mask_of_text w text ≡ Ok m → (items : List Item) → IsListOf w text items → (cpu : ℕ)
    → has m cpu ≡ names items cpu
set_of w wide text m h items list cpu =
    let both : ◌≡◌ {A = Result ℕ SmpError} (Ok m) (Ok (with_items 0 items)) = sym h ∙ reads_as w wide text items list in
    let same : m ≡ with_items 0 items = cc in
    ap (λ z. has z cpu) same ∙ (has_items w items list.items_are 0 cpu ∙ ap (λ z. z || names items cpu) (has_none cpu))

pub accepted : (w : ℕ) → w < 2 ^ 64 → (text : List ℕ) (m : ℕ) → mask_of_text w text ≡ Ok m → IsMaskOf w text m
accepted w wide text m h =
    let found = walk_ok w wide text (record { place = Start; mask = 0 }) [] 0 m (at_start w) h in
    record { items = found.0; is_list = found.1; members = set_of w wide text m h }

no_list : (w : ℕ) → w < 2 ^ 64 → (text : List ℕ) (e : SmpError) → mask_of_text w text ≡ Err e → (items : List Item) → IsListOf w text items → ⊥
no_list w wide text e h items list =
    let both : ◌≡◌ {A = Result ℕ SmpError} (Err e) (Ok (with_items 0 items)) = sym h ∙ reads_as w wide text items list in cc

pub refused : (w : ℕ) → 0 < w → w < 2 ^ 64 → (text : List ℕ) (e : SmpError) → mask_of_text w text ≡ Err e → (p : ℕ) × (e ≡ BadMask p) × IsRefusedAt w text p
refused w some wide text e h =
    let s = walk_err w some wide text (record { place = Start; mask = 0 }) [] 0 e (at_start w) h in (
      s.q,
      s.error ∙ ap BadMask (omega arith),
      record {
        unlisted = no_list w wide text e h;
        within = s.within;
        front = s.front;
        longest = λ q low high f. no_list w wide (take q text ++ f.more) e (s.after q f.more low high) f.items f.is_list;
      },
    )

-- an answer of the reader is what the grammar says of the text
pub means_ok : (w : ℕ) → w < 2 ^ 64 → (text : List ℕ) (r : Result ℕ ℕ) → answered r ≡ mask_of_text w text → IfOk r (λ m. IsMaskOf w text m)
means_ok w wide text (Ok m) h = accepted w wide text m (sym h)
means_ok w wide text (Err at) h = tt

pub means_err : (w : ℕ) → 0 < w → w < 2 ^ 64 → (text : List ℕ) (r : Result ℕ ℕ) → answered r ≡ mask_of_text w text → IfErr r (λ at. IsRefusedAt w text at)
means_err w some wide text (Ok m) h = tt
means_err w some wide text (Err at) h =
    let r = refused w some wide text (BadMask at) (sym h) in
    let e = r.1 in
    let same : r.0 ≡ at = cc in
    subst (λ z. IsRefusedAt w text z) same r.2
