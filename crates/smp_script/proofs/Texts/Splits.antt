-- Fields and lines, put together again.
use Rattle.smp_script.proofs.Names.{◌≡◌, ℕ, true, false, ◌==◌, List, [], ◌∷◌, ◌++◌, refl, sym, ap, ◌∙◌, inl, inr, arith, join_with_byte, list_all, cases_Bool}
use Rattle.smp_script.proofs.Names.{nat_tests, Line, lines_of, onto_line, parts_of, lacks}

-- the parts of a text, from the first
pub record First (mark : ℕ) (bs : List ℕ) : Type 0 where
  pub part : List ℕ
  pub others : List (List ℕ)
  pub are : parts_of mark bs ≡ part ∷ others

pub first_of : (mark : ℕ) (bs : List ℕ) → First mark bs
first_of mark [] = record { part = []; others = []; are = refl }
first_of mark (b ∷ bs) =
    let rest = first_of mark bs in
    elim (cases_Bool (b == mark)) [
      | inl here ↦ record { part = []; others = parts_of mark bs; are = rw here refl }
      | inr other ↦ record { part = b ∷ rest.part; others = rest.others; are = rw (other, rest.are) refl }
    ]

join_mark : (mark : ℕ) (t : List ℕ) (ts : List (List ℕ)) → join_with_byte mark ([] ∷ t ∷ ts) ≡ mark ∷ join_with_byte mark (t ∷ ts)
join_mark mark t ts = refl

join_byte : (mark b : ℕ) (t : List ℕ) (ts : List (List ℕ)) → join_with_byte mark ((b ∷ t) ∷ ts) ≡ b ∷ join_with_byte mark (t ∷ ts)
join_byte mark b t [] = refl
join_byte mark b t (u ∷ us) = refl

-- the parts, joined, are the text
pub join_parts : (mark : ℕ) (bs : List ℕ) → join_with_byte mark (parts_of mark bs) ≡ bs
join_parts mark [] = refl
join_parts mark (b ∷ bs) = grind (first_of, cases_Bool, nat_tests, join_mark, join_byte, join_parts mark bs, arith)

-- no part has such a byte
pub parts_lack_marks : (mark : ℕ) (bs : List ℕ) → list_all (lacks mark) (parts_of mark bs) ≡ true
parts_lack_marks mark [] = refl
parts_lack_marks mark (b ∷ bs) = grind (first_of, cases_Bool, parts_lack_marks mark bs, arith)

-- nor a byte that the text lacks
pub parts_lack : (mark c : ℕ) (bs : List ℕ) → lacks c bs ≡ true → list_all (lacks c) (parts_of mark bs) ≡ true
parts_lack mark c [] h = refl
parts_lack mark c (b ∷ bs) h = grind (first_of, cases_Bool, parts_lack mark c bs, arith)

-- a text by its first line, which a line feed ends
pub record Begins (bs text : List ℕ) (others : List Line) : Type 0 where
  pub rest : List ℕ
  pub text_is : bs ≡ text ++ 10 ∷ rest
  pub others_are : others ≡ lines_of rest
  pub on_line : lacks 10 text ≡ true

head_same : (l m : Line) (ls ms : List Line) → l ∷ ls ≡ m ∷ ms → l ≡ m
head_same l m ls ms h = cc

tail_same : (l m : Line) (ls ms : List Line) → l ∷ ls ≡ m ∷ ms → ls ≡ ms
tail_same l m ls ms h = cc

never : (b : ℕ) (ls : List Line) → onto_line b ls ≡ [] → ⊥
never b [] h = cc
never b (l ∷ ls) h = cc

onto_begins : (b : ℕ) (bs : List ℕ) (l : Line) (ls : List Line) (all : List Line) → (b == 10) ≡ false → all ≡ lines_of bs → ((m : Line) (ms : List Line)
    → all ≡ m ∷ ms → m.ended ≡ true → Begins bs m.text ms) → onto_line b all ≡ l ∷ ls → l.ended ≡ true → Begins (b ∷ bs) l.text ls
onto_begins b bs l ls [] other e more h ended = search (head_same, arith)
onto_begins b bs l ls (m ∷ ms) other e more h ended =
    let head : record { text = b ∷ m.text; ended = m.ended } ≡ l = head_same _ _ _ _ h in
    let tail : ms ≡ ls = tail_same _ _ _ _ h in
    let rest = more m ms refl (ap (λ x. x.ended) head ∙ ended) in
    record {
      rest = rest.rest;
      text_is = ap (λ t. b ∷ t) rest.text_is ∙ ap (λ x. x.text ++ 10 ∷ rest.rest) head;
      others_are = sym tail ∙ rest.others_are;
      on_line = ap (λ x. lacks 10 x.text) (sym head) ∙ rw other rest.on_line;
    }

pub line_back : (bs : List ℕ) (l : Line) (ls : List Line) → lines_of bs ≡ l ∷ ls → l.ended ≡ true → Begins bs l.text ls
line_back [] l ls h ended = cc
line_back (b ∷ bs) l ls h ended = elim (cases_Bool (b == 10)) [
  | inl feed ↦
      let here : b ≡ 10 = grind (arith, nat_tests, feed) in
      let same : ◌≡◌ {A = List Line} (record { text = []; ended = true } ∷ lines_of bs) (l ∷ ls) = rw feed at h in
      let head = head_same _ _ _ _ same in
      record {
        rest = bs;
        text_is = ap (λ x. x ∷ bs) here ∙ ap (λ x. x.text ++ 10 ∷ bs) head;
        others_are = sym (tail_same _ _ _ _ same);
        on_line = ap (λ x. lacks 10 x.text) (sym head);
      }
  | inr other ↦
      let same : onto_line b (lines_of bs) ≡ l ∷ ls = rw other at h in
      onto_begins b bs l ls (lines_of bs) other refl (λ m ms e f. line_back bs m ms e f) same ended
]

-- a text with no line is empty
pub no_line : (bs : List ℕ) → lines_of bs ≡ [] → bs ≡ []
no_line [] h = refl
no_line (b ∷ bs) h = search (cases_Bool, never, arith)
