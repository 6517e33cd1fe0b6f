-- The lines of a text without a byte of another line.
use Rattle.std.proofs.Common.{◌≡◌, ℕ, ◌+◌, ◌≤◌, Bool, true, false, ◌==◌, if◌then◌else◌, List, [], ◌∷◌, ◌++◌, length, refl, sym, ap, ◌∙◌}
use Rattle.std.proofs.Common.{Some, arith, append_assoc, append-nil, subst}
use Rattle.std.proofs.lemmas.Bool.Decides.{nat_tests}
use Rattle.smp_script.specs.Lines.{Line, lines_of, onto_line}
use Rattle.trace_ftrace.specs.Text.{line_from}
use Rattle.trace_ftrace.specs.ThinText.{is_shown, line_feeds, HaveSame, ShowSame}
use Rattle.trace_ftrace.specs.declared.thin_text.ShownLines.{ShownLines}

-- the line with a byte in front of the first
onto_from : (k n x : ℕ) (ls : List Line) → line_from k n (onto_line x ls) ≡ (if k == n then x ∷ line_from k n ls else line_from k n ls)
onto_from k n x [] = elim (k == n) as (λ v. (if v then x ∷ [] else []) ≡ (if v then x ∷ [] else [])) [ true ↦ refl | false ↦ refl ]
onto_from k n x (l ∷ ls) =
    elim (k == n) as (λ v. (if v then x ∷ l.text else line_from (k + 1) n ls)
    ≡ (if v then x ∷ (if v then l.text else line_from (k + 1) n ls) else (if v then l.text else line_from (k + 1) n ls))) [ true ↦ refl | false ↦ refl ]

-- a line feed in front, and another byte
lines_if : (here : Bool) (k n x : ℕ) (ls : List Line)
    → line_from k n (if here then record { text = []; ended = true } ∷ ls else onto_line x ls)
    ≡ (if here then (if k == n then [] else line_from (k + 1) n ls) else (if k == n then x ∷ line_from k n ls else line_from k n ls))
lines_if true k n x ls = refl
lines_if false k n x ls = onto_from k n x ls

front : (k n x : ℕ) (xs : List ℕ) → line_from k n (lines_of (x ∷ xs))
    ≡ (if x == 10 then (if k == n then [] else line_from (k + 1) n (lines_of xs)) else (if k == n then x ∷ line_from k n (lines_of xs)
    else line_from k n (lines_of xs)))
front k n x xs = lines_if (x == 10) k n x (lines_of xs)

same_front : (here there : Bool) (x : ℕ) (u v p q : List ℕ) → (here ≡ true → u ≡ v) → (here ≡ false → p ≡ q)
    → (if here then (if there then [] else u) else (if there then x ∷ p else p)) ≡ (if here then (if there then [] else v) else (if there then x ∷ q else q))
same_front true there x u v p q f g = rw (f refl) refl
same_front false there x u v p q f g = rw (g refl) refl

-- a byte that ends no line is left out of another line
without : (k n b : ℕ) (thin rest : List ℕ) → (b == 10) ≡ false → (n ≡ line_feeds thin + k → ⊥)
    → line_from k n (lines_of (thin ++ (b ∷ rest))) ≡ line_from k n (lines_of (thin ++ rest))
without k n b [] rest h q =
    let other : (k == n) ≡ false = search (arith, nat_tests) in
    rw (front k n b rest, h, other) refl
without k n b (x ∷ xs) rest h q =
    front k n x (xs ++ (b ∷ rest))
    ∙ same_front (x == 10) (k == n) x _ _ _ _
    (λ t. without (k + 1) n b xs rest h (λ e. q (rw t (omega (arith, e)))))
    (λ f. without k n b xs rest h (λ e. q (rw f (omega (arith, e)))))
    ∙ sym (front k n x (xs ++ rest))

-- no text has more line feeds than bytes
feeds_if : (here : Bool) (n m : ℕ) → n ≤ m → (if here then n + 1 else n) ≤ m + 1
feeds_if true n m h = omega arith
feeds_if false n m h = omega arith

pub feeds_within : (bs : List ℕ) → line_feeds bs ≤ length bs
feeds_within [] = omega arith
feeds_within (b ∷ bs) = search (arith, feeds_if (b == 10) (line_feeds bs) (length bs) (feeds_within bs))

-- a byte behind
feeds_push : (b : ℕ) (bs : List ℕ) → line_feeds (bs ++ (b ∷ [])) ≡ (if b == 10 then line_feeds bs + 1 else line_feeds bs)
feeds_push b [] = refl
feeds_push b (x ∷ xs) = rw (feeds_push b xs) (
    elim (x == 10) as (λ v. (if v then (if b == 10 then line_feeds xs + 1 else line_feeds xs) + 1 else (if b == 10 then line_feeds xs + 1 else line_feeds xs))
    ≡ (if b == 10 then (if v then line_feeds xs + 1 else line_feeds xs) + 1 else (if v then line_feeds xs + 1 else line_feeds xs))) [
      | true ↦ elim (b == 10) as (λ w. (if w then line_feeds xs + 1 else line_feeds xs) + 1 ≡ (if w then line_feeds xs + 1 + 1 else line_feeds xs + 1))
          [ true ↦ refl | false ↦ refl ]
      | false ↦ refl
    ])

pub feeds_more : (b : ℕ) (bs : List ℕ) → (b == 10) ≡ true → line_feeds (bs ++ (b ∷ [])) ≡ line_feeds bs + 1
feeds_more b bs h = rw (feeds_push b bs, h) refl

pub feeds_same : (b : ℕ) (bs : List ℕ) → (b == 10) ≡ false → line_feeds (bs ++ (b ∷ [])) ≡ line_feeds bs
feeds_same b bs h = rw (feeds_push b bs, h) refl

-- a line that is shown is not one that is not
apart : (s : ShownLines) (line number : ℕ) → is_shown s line ≡ true → is_shown s number ≡ false → line ≡ number → ⊥
apart s line number h f e = absurd (let bad : is_shown s number ≡ true = subst (λ x. is_shown s x ≡ true) e h in cc)

-- the byte is left out
pub left_out : (s : ShownLines) (b number : ℕ) (old : List ℕ) → (b == 10) ≡ false → number ≡ line_feeds old + 1 → is_shown s number ≡ false
    → HaveSame s (old ++ (b ∷ [])) old
left_out s b number old h n f line i rest =
    ap (λ (x : List ℕ). line_from 1 line (lines_of x)) (append_assoc old (b ∷ []) rest)
    ∙ without 1 line b old rest h (λ e. apart s line number i f (e ∙ sym n))

-- one more byte of a piece, and its end
pub next_byte : (s : ShownLines) (a old new after : List ℕ) (b : ℕ) → HaveSame s a (old ++ (b ∷ after)) → HaveSame s (old ++ (b ∷ [])) new
    → HaveSame s a (new ++ after)
next_byte s a old new after b f g line h rest =
    f line h rest
    ∙ ap (λ (x : List ℕ). line_from 1 line (lines_of x)) (append_assoc old (b ∷ after) rest ∙ sym (append_assoc old (b ∷ []) (after ++ rest)))
    ∙ g line h (after ++ rest)
    ∙ ap (λ (x : List ℕ). line_from 1 line (lines_of x)) (sym (append_assoc new after rest))

pub whole_piece : (s : ShownLines) (text piece old new : List ℕ) → HaveSame s text old → HaveSame s (old ++ piece) (new ++ [])
    → HaveSame s (text ++ piece) new
whole_piece s text piece old new f g line h rest =
    ap (λ (x : List ℕ). line_from 1 line (lines_of x)) (append_assoc text piece rest)
    ∙ f line h (piece ++ rest)
    ∙ ap (λ (x : List ℕ). line_from 1 line (lines_of x)) (sym (append_assoc old piece rest))
    ∙ g line h rest
    ∙ ap (λ (x : List ℕ). line_from 1 line (lines_of (x ++ rest))) (append-nil new)

-- at the end of the text
pub shows_same : (s : ShownLines) (text thin : List ℕ) → HaveSame s text thin → ShowSame (Some s) text thin
shows_same s text thin f line h =
    ap (λ (x : List ℕ). line_from 1 line (lines_of x)) (sym (append-nil text)) ∙ f line h []
    ∙ ap (λ (x : List ℕ). line_from 1 line (lines_of x)) (append-nil thin)
