-- What is read of a text that comes in pieces.
use Rattle.std.proofs.Common.{◌≡◌, ℕ, ◌+◌, ◌≤◌, ◌<◌, nat_lt, Bool, true, false, List, [], ◌++◌, length, Option, Some, None, Result, Err}
use Rattle.std.proofs.Common.{refl, sym, ap, ◌∙◌, subst, arith, append_assoc, append-nil}
use Rattle.std.proofs.lemmas.List.{length-append}
use Rattle.smp_script.specs.Lines.{lines_of}
use Rattle.smp_words.specs.FirstFault.{◌>>=◌}
use Rattle.trace_ftrace.specs.Kept.{KeptValue}
use Rattle.trace_ftrace.specs.Marks.{lines_kept, no_lines, Keeps}
use Rattle.trace_ftrace.specs.Pieces.{Fails, GoesOn, HaveRead, IsRead, PiecesValue}
use Rattle.trace_ftrace.specs.Reading.{reading_of, told_by, Reads}
use Rattle.trace_ftrace.specs.declared.wrong.Refusal.{Refusal}
use Rattle.trace_ftrace.specs.declared.wrong.Refusal.TheVariants as refusal
use Rattle.trace_ftrace.proofs.ReadFails.{fails}

-- what follows the pieces follows the last
joined : (skip n : ℕ) (text old piece rest : List ℕ) (kept : KeptValue) → GoesOn skip 1 text no_lines n old kept
    → lines_kept skip 1 (lines_of ((text ++ piece) ++ rest)) no_lines ≡ lines_kept skip n (lines_of ((old ++ piece) ++ rest)) kept
joined skip n text old piece rest kept f =
    ap (λ (l : List ℕ). lines_kept skip 1 (lines_of l) no_lines) (append_assoc text piece rest) ∙ f (piece ++ rest)
    ∙ ap (λ (l : List ℕ). lines_kept skip n (lines_of l) kept) (sym (append_assoc old piece rest))

running : (skip : ℕ) (text : List ℕ) (p : PiecesValue) → HaveRead skip text p → p.is_long ≡ false → p.fault ≡ None → IsRead false None skip text p
running skip text p h l f =
    subst (λ (x : Option Refusal). IsRead false x skip text p) f (subst (λ (x : Bool). IsRead x p.fault skip text p) l h.1)

failed : (skip : ℕ) (text : List ℕ) (p : PiecesValue) (why : Refusal) → HaveRead skip text p → p.is_long ≡ false → p.fault ≡ Some why
    → IsRead false (Some why) skip text p
failed skip text p why h l f =
    subst (λ (x : Option Refusal). IsRead false x skip text p) f (subst (λ (x : Bool). IsRead x p.fault skip text p) l h.1)

long_text : (skip : ℕ) (text : List ℕ) (p : PiecesValue) → HaveRead skip text p → p.is_long ≡ true → nat_lt 536870912 (length text) ≡ true
long_text skip text p h l = subst (λ (x : Bool). IsRead x p.fault skip text p) l h.1

to_read : (long : Bool) (fault : Option Refusal) (skip : ℕ) (text : List ℕ) (q : PiecesValue) → q.is_long ≡ long → q.fault ≡ fault
    → IsRead long fault skip text q → IsRead q.is_long q.fault skip text q
to_read long fault skip text q l f h =
    subst (λ (x : Bool). IsRead x q.fault skip text q) (sym l) (subst (λ (x : Option Refusal). IsRead long x skip text q) (sym f) h)

sum_length : (text piece : List ℕ) (bytes more : ℕ) → length text ≡ bytes → more ≡ bytes + length piece → length (text ++ piece) ≡ more
sum_length text piece bytes more h m = search (length-append, arith)

-- one more piece
pub kept_more : (skip : ℕ) (text piece : List ℕ) (p q : PiecesValue) → HaveRead skip text p → p.is_long ≡ false → p.fault ≡ None
    → q.is_long ≡ false → q.fault ≡ None → q.skip ≡ p.skip → q.bytes ≡ p.bytes + length piece
    → GoesOn p.skip p.number (p.part ++ piece) p.kept q.number q.part q.kept → HaveRead skip (text ++ piece) q
kept_more skip text piece p q h l f l2 f2 s b g =
    let r = running skip text p h l f in
    let goes = subst (λ (x : ℕ). GoesOn x p.number (p.part ++ piece) p.kept q.number q.part q.kept) h.0 g in (
      s ∙ h.0,
      to_read false None skip (text ++ piece) q l2 f2
          (sum_length text piece p.bytes q.bytes r.0 b, λ rest. joined skip p.number text p.part piece rest p.kept r.1 ∙ goes rest),
    )

pub fails_now : (skip : ℕ) (text piece : List ℕ) (p q : PiecesValue) (why : Refusal) → HaveRead skip text p → p.is_long ≡ false → p.fault ≡ None
    → q.is_long ≡ false → q.fault ≡ Some why → q.skip ≡ p.skip → q.bytes ≡ p.bytes + length piece
    → Fails why p.skip p.number (p.part ++ piece) p.kept → HaveRead skip (text ++ piece) q
fails_now skip text piece p q why h l f l2 f2 s b g =
    let r = running skip text p h l f in
    let fails = subst (λ (x : ℕ). Fails why x p.number (p.part ++ piece) p.kept) h.0 g in (
      s ∙ h.0,
      to_read false (Some why) skip (text ++ piece) q l2 f2 (
        sum_length text piece p.bytes q.bytes r.0 b,
        λ rest. subst (λ (x : Result KeptValue Refusal). Keeps (Err why) no_lines x) (sym (joined skip p.number text p.part piece rest p.kept r.1))
            (fails rest),
      ),
    )

pub fails_still : (skip : ℕ) (text piece : List ℕ) (p q : PiecesValue) (why : Refusal) → HaveRead skip text p → p.is_long ≡ false → p.fault ≡ Some why
    → q.is_long ≡ false → q.fault ≡ Some why → q.skip ≡ p.skip → q.bytes ≡ p.bytes + length piece → HaveRead skip (text ++ piece) q
fails_still skip text piece p q why h l f l2 f2 s b =
    let r = failed skip text p why h l f in (
      s ∙ h.0,
      to_read false (Some why) skip (text ++ piece) q l2 f2 (
        sum_length text piece p.bytes q.bytes r.0 b,
        λ rest. subst (λ (x : List ℕ). Keeps (Err why) no_lines (lines_kept skip 1 (lines_of x) no_lines)) (sym (append_assoc text piece rest))
            (r.1 (piece ++ rest)),
      ),
    )

-- the text is too long
pub length_of : (skip : ℕ) (text : List ℕ) (p : PiecesValue) (fault : Option Refusal) → HaveRead skip text p → p.is_long ≡ false → p.fault ≡ fault
    → length text ≡ p.bytes
length_of skip text p None h l f = (running skip text p h l f).0
length_of skip text p (Some why) h l f = (failed skip text p why h l f).0

pub is_long_now : (skip : ℕ) (text piece : List ℕ) (p q : PiecesValue) → HaveRead skip text p → p.is_long ≡ false → q.is_long ≡ true → q.skip ≡ p.skip
    → 536870912 < p.bytes + length piece → HaveRead skip (text ++ piece) q
is_long_now skip text piece p q h l l2 s b =
    let n : length (text ++ piece) ≡ p.bytes + length piece =
    sum_length text piece p.bytes (p.bytes + length piece) (length_of skip text p p.fault h l refl) refl in
    (s ∙ h.0, to_read true q.fault skip (text ++ piece) q l2 refl (search (arith, n, b)))

pub is_long_still : (skip : ℕ) (text piece : List ℕ) (p q : PiecesValue) → HaveRead skip text p → p.is_long ≡ true → q.is_long ≡ true → q.skip ≡ p.skip
    → HaveRead skip (text ++ piece) q
is_long_still skip text piece p q h l l2 s =
    let long = long_text skip text p h l in
    (s ∙ h.0, to_read true q.fault skip (text ++ piece) q l2 refl (search (length-append, arith, long)))

-- what the pieces are read as
pub reads_long : (skip : ℕ) (text : List ℕ) (p : PiecesValue) → HaveRead skip text p → p.is_long ≡ true → reading_of skip text ≡ Err refusal.TooLong
unfolding reading_of
reads_long skip text p h l = rw (long_text skip text p h l) refl

is_short : (text : List ℕ) (bytes : ℕ) → length text ≡ bytes → bytes ≤ 536870912 → nat_lt 536870912 (length text) ≡ false
is_short text bytes e h = search (arith, e, h)

pub reads_fault : (A : Type 0) (skip : ℕ) (text : List ℕ) (p : PiecesValue) (why : Refusal) → HaveRead skip text p → p.bytes ≤ 536870912
    → p.is_long ≡ false → p.fault ≡ Some why → Reads {A = A} (Err why) (reading_of skip text)
unfolding reading_of
reads_fault A skip text p why h b l f =
    let r = failed skip text p why h l f in
    let k = subst (λ (x : List ℕ). Keeps (Err why) no_lines (lines_kept skip 1 (lines_of x) no_lines)) (append-nil text) (r.1 []) in
    rw (is_short text p.bytes r.0 b) (fails A why no_lines (lines_kept skip 1 (lines_of text) no_lines) told_by k)

pub reads_rest : (skip : ℕ) (text : List ℕ) (p : PiecesValue) → HaveRead skip text p → p.bytes ≤ 536870912 → p.is_long ≡ false → p.fault ≡ None
    → reading_of skip text ≡ (lines_kept p.skip p.number (lines_of p.part) p.kept >>= told_by)
unfolding reading_of
reads_rest skip text p h b l f =
    let r = running skip text p h l f in
    let whole : lines_kept skip 1 (lines_of text) no_lines ≡ lines_kept skip p.number (lines_of p.part) p.kept =
    ap (λ (x : List ℕ). lines_kept skip 1 (lines_of x) no_lines) (sym (append-nil text)) ∙ r.1 []
    ∙ ap (λ (x : List ℕ). lines_kept skip p.number (lines_of x) p.kept) (append-nil p.part) in
    rw (is_short text p.bytes r.0 b, whole, h.0) refl
