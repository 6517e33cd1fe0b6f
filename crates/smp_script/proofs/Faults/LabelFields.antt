-- The labels line, and what is wrong with it.
use Rattle.smp_script.proofs.Names.{◌≡◌, ℕ, ◌≤◌, true, false, ◌==◌, nat_lt, List, [], ◌∷◌, length, drop, map, Result, codes, refl, sym, ◌∙◌, inl, inr, arith}
use Rattle.smp_script.proofs.Names.{subst, find, list_all, cases_Bool, nat_tests, Cause, Number, Range, MOST_KEYS, MOST_SITES, are_whole, whole_directive}
use Rattle.smp_script.proofs.Names.{entries_in, entry_of, has_number, is_below, is_item, is_labels, items_of, labels_in, labels_of, whole_labels, items, labels}
use Rattle.smp_script.proofs.Names.{requests, has_shape, Setting, ItemsFault, value_of}
use Rattle.smp_script.proofs.Faults.FieldFaults.{Judged, fine, faulty, Tells, none_yet, reads_last, reads_number}
use Rattle.smp_script.proofs.Faults.LineShapes.{IsQuiet, TellsLine, shapeless, shaped, no_whole, passes_word, skips, skips_word}
use Rattle.smp_script.proofs.Faults.RequestLines.{IsSound, Spells, line_told, no_labels, no_request}
use Rattle.smp_script.proofs.Spelled.ReadParts.{same_word}

right_items : (keys : ℕ) (field : List ℕ) → list_all has_number (items_of field) ≡ true → length (items_of field) ≤ MOST_SITES
    → list_all (is_below keys) (items_of field) ≡ true → (cause : Cause) → ItemsFault keys field cause → ⊥
right_items keys field good few below Number f = let bad : true ≡ false = sym good ∙ f in cc
right_items keys field good few below Range f = grind arith
right_items keys field good few below _ f = f

items_judged : (keys : ℕ) (field : List ℕ) → Judged (ItemsFault keys field) (entries_in keys (items_of field))
items_judged keys field = elim (cases_Bool (list_all has_number (items_of field))) [
  | inr bad ↦ faulty Number (rw bad refl) bad
  | inl good ↦ elim (cases_Bool (nat_lt MOST_SITES (length (items_of field)))) [
    | inl many ↦ faulty Range (rw (good, many) refl) (good, inl (grind (arith, nat_tests, many)))
    | inr few ↦ elim (cases_Bool (list_all (is_below keys) (items_of field))) [
      | inr past ↦ faulty Range (rw (good, few, past) refl) (good, inr past)
      | inl below ↦ fine (record { keys = keys; entries = map entry_of (items_of field) }) (rw (good, few, below) refl)
          (right_items keys field good (grind (arith, nat_tests, few)) below)
    ]
  ]
]

items_told : (keys field : List ℕ) → list_all is_item (items_of field) ≡ true
    → Tells labels (codes "labels" ∷ keys ∷ field ∷ []) (λ m. IsQuiet (codes "labels" ∷ keys ∷ field ∷ [])) (labels_in keys (items_of field))
unfolding labels_in
items_told keys field good =
    let fields = codes "labels" ∷ keys ∷ field ∷ [] in
    rw good (
    reads_number labels fields (λ m. IsQuiet fields) 1 0 MOST_KEYS _ refl (passes_word labels fields 0 _ refl (none_yet labels fields)) (λ two.
    reads_last labels fields (λ m. IsQuiet fields) 2 items (entries_in (value_of keys) (items_of field)) refl two refl (λ m. (refl, refl))
    (items_judged (value_of keys) field)))

labels_rest : (setting : Setting) (rest : List (List ℕ)) → are_whole (codes "labels" ∷ rest) ≡ true
    → TellsLine (labels ∷ requests setting) (codes "labels" ∷ rest) (λ m. IsQuiet (codes "labels" ∷ rest)) (labels_of (codes "labels" ∷ rest))
unfolding labels_in
labels_rest setting [] whole = shapeless (no_labels setting []) refl
labels_rest setting (k ∷ []) whole = shapeless (no_labels setting (k ∷ [])) refl
labels_rest setting (k ∷ i ∷ []) whole =
    let some_k : (length k == 0) ≡ false = grind (arith, whole) in
    elim (cases_Bool (list_all is_item (items_of i))) [
      | inl good ↦ shaped labels (labels_in k (items_of i)) (rw (good, some_k) refl) refl (items_told k i good)
      | inr bad ↦ shapeless (skips (codes "labels" ∷ k ∷ i ∷ []) labels (requests setting) (rw bad refl) ∙ no_labels setting (k ∷ i ∷ [])) (rw bad refl)
    ]
labels_rest setting (k ∷ i ∷ x ∷ rest) whole = shapeless (no_labels setting (k ∷ i ∷ x ∷ rest)) refl

labels_whole : (setting : Setting) (fields : List (List ℕ)) → is_labels fields ≡ true → are_whole fields ≡ true
    → TellsLine (labels ∷ requests setting) fields (λ m. IsQuiet fields) (labels_of fields)
labels_whole setting [] h whole = cc
labels_whole setting (a ∷ rest) h whole =
    let same = same_word a (codes "labels") h in
    subst (λ x. TellsLine (labels ∷ requests setting) (x ∷ rest) (λ m. IsQuiet (x ∷ rest)) (labels_of (x ∷ rest))) (sym same)
    (labels_rest setting rest (subst (λ x. are_whole (x ∷ rest) ≡ true) same whole))

-- what reading the labels line tells
pub labels_told : (setting : Setting) (fields : List (List ℕ)) → is_labels fields ≡ true
    → TellsLine (labels ∷ requests setting) fields (λ m. IsQuiet fields) (whole_labels fields)
labels_told setting fields h = elim (cases_Bool (are_whole fields)) [
  | inl whole ↦ rw whole (labels_whole setting fields h whole)
  | inr empty ↦
      shapeless (skips fields labels (requests setting) (no_whole fields labels refl empty) ∙ no_request setting fields empty) (rw empty refl)
]

skips_labels : (setting : Setting) (fields : List (List ℕ)) → is_labels fields ≡ false
    → find (has_shape fields) (labels ∷ requests setting) ≡ find (has_shape fields) (requests setting)
skips_labels setting [] h = refl
skips_labels setting (a ∷ rest) h = skips_word a rest (codes "labels") (drop 1 labels) (requests setting) h

also_shaped : {B : Type 0} (setting : Setting) (fields : List (List ℕ)) (holds : B → Type 0) (read : Result B Cause) → is_labels fields ≡ false
    → TellsLine (requests setting) fields holds read → TellsLine (labels ∷ requests setting) fields holds read
also_shaped setting fields holds read h (shapeless s is) = shapeless (skips_labels setting fields h ∙ s) is
also_shaped setting fields holds read h (shaped shape by_shape s is told) = shaped shape by_shape (skips_labels setting fields h ∙ s) is told

-- what reading line 3 tells, where it is no labels line
pub third_told : (setting : Setting) → IsSound setting → (fields : List (List ℕ)) → is_labels fields ≡ false
    → TellsLine (labels ∷ requests setting) fields (Spells setting fields) (whole_directive setting fields)
third_told setting sound fields h = also_shaped setting fields (Spells setting fields) (whole_directive setting fields) h (line_told setting sound fields)
