-- Which shape the fields of a line have, and what reading them by that shape tells.
use Rattle.smp_script.proofs.Names.{◌≡◌, ℕ, ◌+◌, Bool, true, false, not, ◌==◌, List, [], ◌∷◌, length, Some, None, Result, Err, refl, ◌∙◌, arith, find}
use Rattle.smp_script.proofs.Names.{slice_get, bytes_eq, cases_Bool, and_parts, and_right, nat_tests, list_all, Cause, Word, Directive, are_whole, events_of}
use Rattle.smp_script.proofs.Names.{Form, word, has_shape, has_word, events_in, key_of, key_in}
use Rattle.smp_script.proofs.Faults.FieldFaults.{Clean, Tells, passes}

-- what reading the fields of a line tells: they have no shape, or one by which they are read
pub data TellsLine {B : Type 0} (shapes : List (List Form)) (fields : List (List ℕ)) (holds : B → Type 0) (read : Result B Cause) : Type 0 where
  shapeless : find (has_shape fields) shapes ≡ None → read ≡ Err Word → TellsLine shapes fields holds read
  shaped : (shape : List Form) (by_shape : Result B Cause) → find (has_shape fields) shapes ≡ Some shape → read ≡ by_shape → Tells shape fields holds by_shape
      → TellsLine shapes fields holds read

-- a field that is a word has nothing else wrong
pub passes_word : (shape : List Form) (fields : List (List ℕ)) (i : ℕ) (w : List ℕ) → slice_get shape i ≡ Some (word w) → Clean shape fields i
    → Clean shape fields (i + 1)
passes_word shape fields i w wants clean = passes shape fields i (word w) wants (λ cause f. f) clean

-- a line of these fields makes as many events as that line, and has the same key
abbrev pub Matches : List (List ℕ) → Directive → Type 0
Matches fields d = (events_in fields ≡ events_of d) × (key_in fields ≡ key_of d)

-- a line of these fields makes no event, and has no key
abbrev pub IsQuiet : List (List ℕ) → Type 0
IsQuiet fields = (events_in fields ≡ 0) × (key_in fields ≡ None)

-- a shape that the fields don't have
pub skips : (fields : List (List ℕ)) (shape : List Form) (shapes : List (List Form)) → has_shape fields shape ≡ false
    → find (has_shape fields) (shape ∷ shapes) ≡ find (has_shape fields) shapes
skips fields shape shapes h = rw h refl

-- or don't begin with
pub skips_word : (a : List ℕ) (fields : List (List ℕ)) (w : List ℕ) (forms : List Form) (shapes : List (List Form)) → bytes_eq a w ≡ false
    → find (has_shape (a ∷ fields)) ((word w ∷ forms) ∷ shapes) ≡ find (has_shape (a ∷ fields)) shapes
skips_word a fields w forms shapes h = skips (a ∷ fields) (word w ∷ forms) shapes (and_right (has_shape fields forms) (bytes_eq a w) h)

-- no field of the shape may be empty
abbrev pub has_texts : List Form → Bool
has_texts shape = list_all (λ form. not (has_word form [])) shape

never_empty : (form : Form) (field : List ℕ) → not (has_word form []) ≡ true → has_word form field ≡ true → not (length field == 0) ≡ true
never_empty form [] h e = grind (arith, h, e)
never_empty form (b ∷ bs) h e = grind (arith, nat_tests)

whole_shape : (fields : List (List ℕ)) (shape : List Form) → has_texts shape ≡ true → has_shape fields shape ≡ true → are_whole fields ≡ true
whole_shape (field ∷ fields) (form ∷ forms) h e =
    let right = and_parts (not (has_word form [])) (has_texts forms) h in
    let parts = and_parts (has_shape fields forms) (has_word form field) e in
    rw (never_empty form field right.0 parts.1, whole_shape fields forms right.1 parts.0) refl
whole_shape [] [] h e = refl
whole_shape _ _ h e = cc

pub no_whole : (fields : List (List ℕ)) (shape : List Form) → has_texts shape ≡ true → are_whole fields ≡ false → has_shape fields shape ≡ false
no_whole fields shape h e = grind (cases_Bool, whole_shape, arith)

-- where a field is empty, none of these shapes
pub none_whole : (fields : List (List ℕ)) (shapes : List (List Form)) → list_all has_texts shapes ≡ true → are_whole fields ≡ false
    → find (has_shape fields) shapes ≡ None
none_whole fields [] h e = refl
none_whole fields (shape ∷ shapes) h e =
    let parts = and_parts (has_texts shape) (list_all has_texts shapes) h in
    skips fields shape shapes (no_whole fields shape parts.0 e) ∙ none_whole fields shapes parts.1 e
