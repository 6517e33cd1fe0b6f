-- The labels line, as it is written.
use Rattle.smp_script.proofs.Names.{◌≡◌, ℕ, suc, ◌<◌, ◌≤◌, true, false, nat_lt, ◌==◌, List, [], ◌∷◌, map, length, Option, Some, None, Ok, codes, refl, sym, ap}
use Rattle.smp_script.proofs.Names.{◌∙◌, inl, inr, arith, decimal, AllByRecursion, join_with_byte, list_all, bytes_eq, length-map, nil_from_length, cases_Bool}
use Rattle.smp_script.proofs.Names.{and_parts, nat_tests, AreLabels, Labels, MOST_KEYS, MOST_SITES, fields_of, lines_of, is_digit, word32, Item, entry_of}
use Rattle.smp_script.proofs.Names.{has_number, is_below, is_item, is_labels, item_of, items_of, labels_in, whole_labels, labels_at, is_field, item_text}
use Rattle.smp_script.proofs.Names.{items_text, labels_before, lacks}
use Rattle.std.proofs.Common.{All}
use Rattle.smp_labels.specs.declared.entries.Entry.{Entry}
use Rattle.smp_script.proofs.Texts.Decimals.{decimal_lacks, is_decimal-decimal, is_field-decimal, number_in-decimal, value_of_decimal}
use Rattle.smp_script.proofs.Texts.Joins.{fields_join, lacks-append, lines_of-line, parts_front, parts_join, whole_fields}
use Rattle.smp_script.proofs.Spelled.ReadParts.{same_word}

-- keys that a field has room for
abbrev AreSmall : List Entry → Type 0
AreSmall entries = AllByRecursion (λ e. e.key < 4) entries

-- an item is read
item_read : (e : Entry) → e.key < 4 → item_of (item_text e) ≡ Some (decimal e.key, e.branch)
item_read e small = search (decimal_lacks, cases_Bool, parts_front, arith)

-- and has no byte of another kind
item_lacks : (c : ℕ) (e : Entry) → is_digit c ≡ false → (58 == c) ≡ false → e.key < 4 → lacks c (item_text e) ≡ true
item_lacks c e digit colon small = search (decimal_lacks, nat_tests, cases_Bool, lacks-append, arith)

items_lack : (c : ℕ) (es : List Entry) → is_digit c ≡ false → (58 == c) ≡ false → AreSmall es → list_all (lacks c) (map item_text es) ≡ true
items_lack c [] digit colon small = refl
items_lack c (e ∷ es) digit colon small = rw (item_lacks c e digit colon small.0, items_lack c es digit colon small.1) refl

join_lacks : (c mark : ℕ) (ts : List (List ℕ)) → (mark == c) ≡ false → list_all (lacks c) ts ≡ true → lacks c (join_with_byte mark ts) ≡ true
join_lacks c mark [] other h = refl
join_lacks c mark (t ∷ []) other h = (and_parts (lacks c t) true h).0
join_lacks c mark (t ∷ u ∷ us) other h =
    let p = and_parts (lacks c t) (list_all (lacks c) (u ∷ us)) h in
    rw (lacks-append c t (mark ∷ join_with_byte mark (u ∷ us)), p.0, other, join_lacks c mark (u ∷ us) other p.1) refl

-- the field of the items
text_lacks : (c : ℕ) (es : List Entry) → is_digit c ≡ false → (58 == c) ≡ false → (44 == c) ≡ false → (45 == c) ≡ false → AreSmall es
    → lacks c (items_text es) ≡ true
text_lacks c [] digit colon comma hyphen small = rw hyphen refl
text_lacks c (e ∷ es) digit colon comma hyphen small = join_lacks c 44 (map item_text (e ∷ es)) comma (items_lack c (e ∷ es) digit colon small)

no_dash : (e : Entry) (es : List Entry) → AreSmall (e ∷ es) → bytes_eq (items_text (e ∷ es)) (codes "-") ≡ false
no_dash e es small = elim (cases_Bool (bytes_eq (items_text (e ∷ es)) (codes "-"))) [
  | inr other ↦ other
  | inl dash ↦
      let plain : lacks 45 (items_text (e ∷ es)) ≡ true = join_lacks 45 44 (map item_text (e ∷ es)) refl (items_lack 45 (e ∷ es) refl refl small) in
      let bad : false ≡ true = ap (lacks 45) (sym (same_word (items_text (e ∷ es)) (codes "-") dash)) ∙ plain in cc
]

-- the items are read
items_read : (es : List Entry) → AreSmall es → items_of (items_text es) ≡ map item_text es
items_read [] small = refl
items_read (e ∷ es) small = rw (no_dash e es small) (parts_join 44 (item_text e) (map item_text es) (items_lack 44 (e ∷ es) refl refl small))

heads_same : {t u : List ℕ} {ts us : List (List ℕ)} → t ∷ ts ≡ u ∷ us → t ≡ u
heads_same h = cc

word_read : (n : ℕ) → n < 4 → word32 (decimal n) ≡ Ok n
word_read n small = number_in-decimal 0 4294967295 n (omega arith) (omega arith) (omega arith)

below_read : (keys : ℕ) (e : Entry) → e.key < 4 → e.key < keys → is_below keys (item_text e) ≡ true
below_read keys e small under = search (value_of_decimal, nat_tests, item_read, is_decimal-decimal, arith)

all_items : (es : List Entry) → AreSmall es → list_all is_item (map item_text es) ≡ true
all_items [] small = refl
all_items (e ∷ es) small = rw (item_read e small.0, all_items es small.1) refl

all_numbers : (es : List Entry) → AreSmall es → list_all has_number (map item_text es) ≡ true
all_numbers [] small = refl
all_numbers (e ∷ es) small = rw (item_read e small.0, is_decimal-decimal e.key (omega (arith, small.0)), all_numbers es small.1) refl

all_below : (keys : ℕ) (es : List Entry) → AreSmall es → AllByRecursion (λ e. e.key < keys) es → list_all (is_below keys) (map item_text es) ≡ true
all_below keys [] small under = refl
all_below keys (e ∷ es) small under = rw (below_read keys e small.0 under.0, all_below keys es small.1 under.1) refl

all_entries : (es : List Entry) → AreSmall es → map entry_of (map item_text es) ≡ es
all_entries [] small = refl
all_entries (e ∷ es) small = rw (item_read e small.0) (rw (word_read e.key small.0, all_entries es small.1) refl)

smaller : (keys : ℕ) (es : List Entry) → keys ≤ 4 → AllByRecursion (λ e. e.key < keys) es → AreSmall es
smaller keys [] few h = tt
smaller keys (e ∷ es) few h = (omega (arith, h.0), smaller keys es few h.1)

pub by_recursion : (keys : ℕ) (es : List Entry) → All (λ e. e.key < keys) es → AllByRecursion (λ e. e.key < keys) es
by_recursion keys [] h = tt
by_recursion keys (e ∷ es) h = (h 0 e (omega arith), by_recursion keys es (λ k d l. h (suc k) d (omega arith)))

labels_read : (labels : Labels) → AreLabels labels.keys labels.entries → labels_in (decimal labels.keys) (items_of (items_text labels.entries)) ≡ Ok labels
unfolding labels_in
labels_read labels h =
    let under = by_recursion labels.keys labels.entries h.known in
    let small = smaller labels.keys labels.entries h.few_keys under in
    let few : nat_lt MOST_SITES (length (map item_text labels.entries)) ≡ false = grind (arith, nat_tests, length-map labels.entries item_text, h.few_sites) in
    rw (
      items_read labels.entries small,
      all_items labels.entries small,
      number_in-decimal 0 MOST_KEYS labels.keys (omega arith) h.few_keys (omega (arith, h.few_keys)),
    )
    (rw (all_numbers labels.entries small, few, all_below labels.keys labels.entries small under, all_entries labels.entries small) refl)

items_some : (es : List Entry) → AreSmall es → (length (items_text es) == 0) ≡ false
items_some [] small = refl
items_some (e ∷ es) small = elim (cases_Bool (length (items_text (e ∷ es)) == 0)) [
  | inr some ↦ some
  | inl none ↦
      let empty : length (items_text (e ∷ es)) ≡ 0 = grind (arith, nat_tests, none) in
      let nothing : items_text (e ∷ es) ≡ [] = nil_from_length (items_text (e ∷ es)) empty in
      let read : map item_text (e ∷ es) ≡ [] ∷ [] = sym (items_read (e ∷ es) small) ∙ ap items_of nothing in
      let first : item_text e ≡ [] = heads_same read in
      let bad : ◌≡◌ {A = Option Item} None (Some (decimal e.key, e.branch)) = ap item_of (sym first) ∙ item_read e small.0 in
      cc
]

-- the words of the line are fields
pub labels_fields : (labels : Labels) → AreLabels labels.keys labels.entries
    → list_all is_field (codes "labels" ∷ decimal labels.keys ∷ items_text labels.entries ∷ []) ≡ true
labels_fields labels h =
    let small = smaller labels.keys labels.entries h.few_keys (by_recursion labels.keys labels.entries h.known) in
    rw (
      is_field-decimal labels.keys (omega (arith, h.few_keys)),
      items_some labels.entries small,
      text_lacks 32 labels.entries refl refl refl refl small,
      text_lacks 10 labels.entries refl refl refl refl small,
    ) refl

-- and are read as it
pub labels_line_read : (labels : Labels) (rest : List ℕ) → AreLabels labels.keys labels.entries
    → labels_at (lines_of (labels_before (Some labels) rest)) ≡ Ok (Some labels, lines_of rest)
labels_line_read labels rest h =
    let fields = labels_fields labels h in
    let back = fields_join (codes "labels") (decimal labels.keys ∷ items_text labels.entries ∷ []) fields in
    let is : is_labels (fields_of (join_with_byte 32 (codes "labels" ∷ decimal labels.keys ∷ items_text labels.entries ∷ []))) ≡ true = ap is_labels back in
    let here : whole_labels (codes "labels" ∷ decimal labels.keys ∷ items_text labels.entries ∷ []) ≡ Ok labels =
    rw (whole_fields (codes "labels" ∷ decimal labels.keys ∷ items_text labels.entries ∷ []) fields, labels_read labels h) refl in
    let read : whole_labels (fields_of (join_with_byte 32 (codes "labels" ∷ decimal labels.keys ∷ items_text labels.entries ∷ []))) ≡ Ok labels =
    ap whole_labels back ∙ here in
    rw (lines_of-line (codes "labels" ∷ decimal labels.keys ∷ items_text labels.entries ∷ []) rest fields, is, read) refl
