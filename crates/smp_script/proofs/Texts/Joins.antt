-- Fields and lines, as they are written.
use Rattle.smp_script.proofs.Names.{◌≡◌, ℕ, true, ◌&&◌, List, [], ◌∷◌, ◌++◌, refl, arith, join_with_byte, list_all, nat_tests, fields_of, lines_of, parts_of}
use Rattle.smp_script.proofs.Names.{are_whole, lacks, is_field, line_before}

-- a text with no such byte is one part
pub parts_plain : (mark : ℕ) (t : List ℕ) → lacks mark t ≡ true → parts_of mark t ≡ t ∷ []
parts_plain mark [] h = refl
parts_plain mark (b ∷ bs) h = grind (arith, parts_plain mark bs)

-- such a byte ends the first part
pub parts_front : (mark : ℕ) (t rest : List ℕ) → lacks mark t ≡ true → parts_of mark (t ++ mark ∷ rest) ≡ t ∷ parts_of mark rest
parts_front mark [] rest h = search (nat_tests, arith)
parts_front mark (b ∷ bs) rest h = grind (arith, parts_front mark bs rest)

-- parts that are joined are read
pub parts_join : (mark : ℕ) (t : List ℕ) (ts : List (List ℕ)) → list_all (lacks mark) (t ∷ ts) ≡ true → parts_of mark (join_with_byte mark (t ∷ ts)) ≡ t ∷ ts
parts_join mark t [] h = search (parts_plain, arith)
parts_join mark t (u ∷ us) h = grind (arith, parts_front, parts_join mark u us)

-- fields have no space
lack_spaces : (ts : List (List ℕ)) → list_all is_field ts ≡ true → list_all (lacks 32) ts ≡ true
lack_spaces [] h = refl
lack_spaces (t ∷ ts) h = grind (arith, lack_spaces ts)

-- fields that are joined are read
pub fields_join : (t : List ℕ) (ts : List (List ℕ)) → list_all is_field (t ∷ ts) ≡ true → fields_of (join_with_byte 32 (t ∷ ts)) ≡ t ∷ ts
fields_join t ts h = parts_join 32 t ts (lack_spaces (t ∷ ts) h)

-- fields are not empty
pub whole_fields : (ts : List (List ℕ)) → list_all is_field ts ≡ true → are_whole ts ≡ true
whole_fields [] h = refl
whole_fields (t ∷ ts) h = grind (arith, whole_fields ts)

pub lacks-append : (c : ℕ) (xs ys : List ℕ) → lacks c (xs ++ ys) ≡ (lacks c xs && lacks c ys)
lacks-append c [] ys = refl
lacks-append c (x ∷ xs) ys = grind (arith, lacks-append c xs ys)

-- and have no line feed
lacks-join : (ts : List (List ℕ)) → list_all is_field ts ≡ true → lacks 10 (join_with_byte 32 ts) ≡ true
lacks-join [] h = refl
lacks-join (t ∷ []) h = grind (arith, h)
lacks-join (t ∷ u ∷ us) h = grind (arith, lacks-append, lacks-join (u ∷ us))

lines_front : (t rest : List ℕ) → lacks 10 t ≡ true → lines_of (t ++ 10 ∷ rest) ≡ record { text = t; ended = true } ∷ lines_of rest
lines_front [] rest h = refl
lines_front (b ∷ bs) rest h = grind (arith, lines_front bs rest)

-- a line that is written is the first
pub lines_of-line : (ts : List (List ℕ)) (rest : List ℕ) → list_all is_field ts ≡ true
    → lines_of (line_before ts rest) ≡ record { text = join_with_byte 32 ts; ended = true } ∷ lines_of rest
unfolding line_before
lines_of-line ts rest h = lines_front (join_with_byte 32 ts) rest (lacks-join ts h)
