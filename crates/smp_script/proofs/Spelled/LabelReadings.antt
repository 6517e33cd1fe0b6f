-- What a labels line is that is read.
use Rattle.smp_script.proofs.Names.{◌≡◌, ℕ, ◌≤◌, true, false, nat_lt, ◌&&◌, List, [], ◌∷◌, ◌++◌, map, length, Option, Some, None, Result, Ok, codes, refl, sym}
use Rattle.smp_script.proofs.Names.{ap, ◌∙◌, inl, inr, arith, subst, decimal, join_with_byte, list_all, bytes_eq, map-id, cases_Bool, and_parts, nat_tests, Cut}
use Rattle.smp_script.proofs.Names.{Word, AreLabels, Labels, MOST_KEYS, MOST_SITES, Line, fields_of, lines_of, parts_of, is_decimal, number_in, value_after}
use Rattle.smp_script.proofs.Names.{Fault, ◌>>=◌, at_line, are_whole, entries_in, entry_in, entry_of, is_among, is_below, is_item, is_labels, item_in, items_of}
use Rattle.smp_script.proofs.Names.{labels_in, labels_of, whole_labels, word32, labels_at, LabelsFit, item_text, items_text, labels_before, line_before}
use Rattle.smp_script.proofs.Texts.Decimals.{number_in-ok}
use Rattle.smp_script.proofs.Spelled.ReadParts.{both, guarded, placed_ok, same_word}
use Rattle.smp_script.proofs.Reader.Items.{make_labels}
use Rattle.smp_script.proofs.Texts.Splits.{first_of, join_parts, line_back}

-- a key that is below a number is its decimal
key_back : (keys : ℕ) (key : List ℕ) → keys ≤ MOST_KEYS → (is_decimal key && nat_lt (value_after 0 key) keys) ≡ true
    → (word32 key ≡ Ok (value_after 0 key)) × (key ≡ decimal (value_after 0 key))
key_back keys key few h =
    let read : word32 key ≡ Ok (value_after 0 key) = grind (arith, nat_tests, and_parts, h, few) in
    (read, (number_in-ok 0 4294967295 key (value_after 0 key) (omega arith) read).0)

-- an item is its entry's text
parts_back : (keys : ℕ) (text : List ℕ) (ps : List (List ℕ)) → keys ≤ MOST_KEYS → parts_of 58 text ≡ ps → is_among keys (item_in ps) ≡ true
    → item_text (entry_in (item_in ps)) ≡ text
parts_back keys text (key ∷ branch ∷ []) few e h =
    let joined : join_with_byte 58 (key ∷ branch ∷ []) ≡ text = ap (join_with_byte 58) (sym e) ∙ join_parts 58 text in
    elim (cases_Bool (bytes_eq branch (codes "0"))) [
      | inl off ↦
          let b = same_word branch (codes "0") off in
          let k = key_back keys key few (rw off at h) in
          rw (off, k.0) (ap (λ t. t ++ 58 ∷ codes "0") (sym k.1) ∙ ap (λ t. key ++ 58 ∷ t) (sym b) ∙ joined)
      | inr no_off ↦ elim (cases_Bool (bytes_eq branch (codes "1"))) [
        | inl on ↦
            let b = same_word branch (codes "1") on in
            let k = key_back keys key few (rw (no_off, on) at h) in
            rw (no_off, on, k.0) (ap (λ t. t ++ 58 ∷ codes "1") (sym k.1) ∙ ap (λ t. key ++ 58 ∷ t) (sym b) ∙ joined)
        | inr no_on ↦ let bad : false ≡ true = rw (no_off, no_on) at h in cc
      ]
    ]
parts_back keys text _ few e h = cc

items_back : (keys : ℕ) (texts : List (List ℕ)) → keys ≤ MOST_KEYS → list_all (is_below keys) texts ≡ true → map item_text (map entry_of texts) ≡ texts
items_back keys [] few h = refl
items_back keys (t ∷ ts) few h =
    let p = and_parts (is_below keys t) (list_all (is_below keys) ts) h in
    ap (λ x. x ∷ map item_text (map entry_of ts)) (parts_back keys t (parts_of 58 t) few refl p.0) ∙ ap (λ xs. t ∷ xs) (items_back keys ts few p.1)

-- and the field of all of them theirs
field_back : (keys : ℕ) (field : List ℕ) → keys ≤ MOST_KEYS → list_all (is_below keys) (items_of field) ≡ true
    → items_text (map entry_of (items_of field)) ≡ field
field_back keys field few h = elim (cases_Bool (bytes_eq field (codes "-"))) [
  | inl dash ↦ rw dash (sym (same_word field (codes "-") dash))
  | inr other ↦
      let first = first_of 44 field in
      let below : list_all (is_below keys) (first.part ∷ first.others) ≡ true = ap (list_all (is_below keys)) (sym first.are) ∙ (rw other at h) in
      rw (other, first.are) (ap (join_with_byte 44) (items_back keys (first.part ∷ first.others) few below) ∙ ap (join_with_byte 44) (sym first.are)
      ∙ join_parts 44 field)
]

entries_ok : (keys : ℕ) (items : List (List ℕ)) (m : Labels) → entries_in keys items ≡ Ok m
    → (length items ≤ MOST_SITES) × (list_all (is_below keys) items ≡ true) × (record { keys = keys; entries = map entry_of items } ≡ m)
entries_ok keys items m h = search (guarded, cases_Bool, nat_tests, arith)

-- these are the texts of a labels line
record AreTexts (keys items : List ℕ) (m : Labels) : Type 0 where
  keys_are : keys ≡ decimal m.keys
  items_are : items ≡ items_text m.entries
  fit : AreLabels m.keys m.entries

labels_in_ok : (keys field : List ℕ) (m : Labels) → labels_in keys (items_of field) ≡ Ok m → AreTexts keys field m
unfolding labels_in
labels_in_ok keys field m h =
    let g = guarded (list_all is_item (items_of field)) (number_in 0 MOST_KEYS keys >>= λ n. entries_in n (items_of field)) Word m h in
    let a = both (number_in 0 MOST_KEYS keys) (λ n. entries_in n (items_of field)) m g.1 in
    let n = number_in-ok 0 MOST_KEYS keys a.value (omega arith) a.first in
    let e = entries_ok a.value (items_of field) m a.then in
    let same : list_all (λ t. is_below a.value t) (items_of field) ≡ true = e.1 in
    let fit = make_labels (λ t. t) a.value (items_of field) n.2 e.0 same in
    subst (λ x. AreTexts keys field x) e.2 (record { keys_are = n.0; items_are = sym (field_back a.value field n.2 e.1); fit = rw map-id at fit })

labels_words : (fields : List (List ℕ)) (m : Labels) → is_labels fields ≡ true → labels_of fields ≡ Ok m
    → (fields ≡ codes "labels" ∷ decimal m.keys ∷ items_text m.entries ∷ []) × AreLabels m.keys m.entries
labels_words (word ∷ keys ∷ items ∷ []) m is h =
    let t = labels_in_ok keys items m h in
    (rw (same_word word (codes "labels") is, t.keys_are, t.items_are) refl, t.fit)
labels_words _ m is h = cc

-- a text by its labels line, where it begins with one
pub record BeginsLabels (bs : List ℕ) (third : Option Labels × List Line) : Type 0 where
  pub rest : List ℕ
  pub text_is : bs ≡ labels_before third.0 rest
  pub others_are : third.1 ≡ lines_of rest
  pub fit : LabelsFit third.0

pub labels_ok : (bs : List ℕ) (ls : List Line) (third : Option Labels × List Line) → lines_of bs ≡ ls → labels_at ls ≡ Ok third → BeginsLabels bs third
unfolding line_before
labels_ok bs [] third e h = search arith
labels_ok bs (l ∷ ls) third e h = elim (cases_Bool (is_labels (fields_of l.text))) [
  | inr other ↦
      let t : ◌≡◌ {A = Result (Option Labels × List Line) Fault} (Ok (None, l ∷ ls)) (Ok third) = rw other at h in
      let same : ◌≡◌ {A = Option Labels × List Line} (None, l ∷ ls) third = cc in
      subst (λ x. BeginsLabels bs x) same (record { rest = bs; text_is = refl; others_are = sym e; fit = tt })
  | inl is ↦
      let g = guarded l.ended (at_line 3 (whole_labels (fields_of l.text)) >>= λ labels. Ok (Some labels, ls)) (3, Cut) third (rw is at h) in
      let a = both (at_line 3 (whole_labels (fields_of l.text))) (λ labels. Ok (Some labels, ls)) third g.1 in
      let same : ◌≡◌ {A = Option Labels × List Line} (Some a.value, ls) third = let t = a.then in cc in
      let whole = guarded (are_whole (fields_of l.text)) (labels_of (fields_of l.text)) Word a.value
      (placed_ok 3 (whole_labels (fields_of l.text)) a.value a.first) in
      let words = labels_words (fields_of l.text) a.value is whole.1 in
      let begins = line_back bs l ls e g.0 in
      let text_is : l.text ≡ join_with_byte 32 (codes "labels" ∷ decimal a.value.keys ∷ items_text a.value.entries ∷ []) =
      sym (join_parts 32 l.text) ∙ ap (join_with_byte 32) words.0 in
      subst (λ x. BeginsLabels bs x) same
      (record { rest = begins.rest; text_is = begins.text_is ∙ ap (λ t. t ++ 10 ∷ begins.rest) text_is; others_are = begins.others_are; fit = words.1 })
]
