-- Fields, read from left to right up to the first at fault.
use Rattle.smp_script.proofs.Names.{◌≡◌, ℕ, ◌+◌, ◌<◌, ◌≤◌, true, nat_le, List, length, Some, Result, Ok, Err, refl, inl, inr, arith, slice_get, cases_lt}
use Rattle.smp_script.proofs.Names.{cases_Bool, nat_tests, Cause, Number, Range, ◌>>=◌, is_decimal, number_in, Form, number, FieldFault, NumberFault, field_at}
use Rattle.smp_script.proofs.Names.{value_of}

-- nothing is wrong with the first n fields
abbrev pub Clean : List Form → List (List ℕ) → ℕ → Type 0
Clean shape fields n = (i : ℕ) (form : Form) (cause : Cause) → i < n → slice_get shape i ≡ Some form → FieldFault fields i form cause → ⊥

-- the first field at fault
pub record FirstWrong (shape : List Form) (fields : List (List ℕ)) (cause : Cause) : Type 0 where
  pub place : ℕ
  pub form : Form
  pub wants : slice_get shape place ≡ Some form
  pub wrong : FieldFault fields place form cause
  pub before : Clean shape fields place

-- what reading the fields of a shape tells of their faults, and of what was read
abbrev pub Tells : {B : Type 0} → List Form → List (List ℕ) → (B → Type 0) → Result B Cause → Type 0
Tells shape fields holds (Ok b) = Clean shape fields (length shape) × holds b
Tells shape fields holds (Err cause) = FirstWrong shape fields cause

pub none_yet : (shape : List Form) (fields : List (List ℕ)) → Clean shape fields 0
none_yet shape fields i form cause h e f = absurd (omega arith)

-- a field with nothing wrong
pub passes : (shape : List Form) (fields : List (List ℕ)) (i : ℕ) (form : Form) → slice_get shape i ≡ Some form
    → ((cause : Cause) → FieldFault fields i form cause → ⊥) → Clean shape fields i → Clean shape fields (i + 1)
passes shape fields i form wants right clean j other cause h e f = grind (cases_lt, arith)

-- a number is read, or what is wrong with it
pub data NumberRead (low high : ℕ) (text : List ℕ) : Type 0 where
  is_read : is_decimal text ≡ true → number_in low high text ≡ Ok (value_of text) → ((cause : Cause) → NumberFault low high text cause → ⊥)
      → NumberRead low high text
  is_wrong : (cause : Cause) → number_in low high text ≡ Err cause → NumberFault low high text cause → NumberRead low high text

right_number : (low high : ℕ) (text : List ℕ) → is_decimal text ≡ true → low ≤ value_of text → value_of text ≤ high → (cause : Cause)
    → NumberFault low high text cause → ⊥
right_number low high text good above below Number f = cc
right_number low high text good above below _ f = grind arith

pub number_read : (low high : ℕ) (text : List ℕ) → NumberRead low high text
number_read low high text = elim (cases_Bool (is_decimal text)) [
  | inr bad ↦ is_wrong Number (rw bad refl) bad
  | inl good ↦ elim (cases_Bool (nat_le low (value_of text))) [
    | inr under ↦ is_wrong Range (rw (good, under) refl) (good, inl (grind (arith, nat_tests, under)))
    | inl above ↦ elim (cases_Bool (nat_le (value_of text) high)) [
      | inr over ↦ is_wrong Range (rw (good, above, over) refl) (good, inr (grind (arith, nat_tests, over)))
      | inl below ↦ is_read good (rw (good, above, below) refl)
          (right_number low high text good (grind (arith, nat_tests, above)) (grind (arith, nat_tests, below)))
    ]
  ]
]

-- a field that has to be a number, and what is read after it
pub reads_number : {B : Type 0} (shape : List Form) (fields : List (List ℕ)) (holds : B → Type 0) (i low high : ℕ) (then : ℕ → Result B Cause)
    → slice_get shape i ≡ Some (number low high) → Clean shape fields i → (Clean shape fields (i + 1)
    → Tells shape fields holds (then (value_of (field_at fields i)))) → Tells shape fields holds (number_in low high (field_at fields i) >>= then)
reads_number shape fields holds i low high then wants clean more = grind (number_read, passes, arith)

-- a field is read, or what is wrong with it
pub data Judged {A : Type 0} (Wrong : Cause → Type 0) (read : Result A Cause) : Type 0 where
  fine : (x : A) → read ≡ Ok x → ((cause : Cause) → Wrong cause → ⊥) → Judged Wrong read
  faulty : (cause : Cause) → read ≡ Err cause → Wrong cause → Judged Wrong read

pub number_judged : (low high : ℕ) (text : List ℕ) → Judged (NumberFault low high text) (number_in low high text)
number_judged low high text = elim (number_read low high text) [
  | is_read good e right ↦ fine (value_of text) e right
  | is_wrong cause e f ↦ faulty cause e f
]

-- a field of this form, and what is read after it
pub reads_field : {A B : Type 0} (shape : List Form) (fields : List (List ℕ)) (holds : B → Type 0) (i : ℕ) (form : Form) (read : Result A Cause)
    (then : A → Result B Cause) → slice_get shape i ≡ Some form → Clean shape fields i
    → Judged (FieldFault fields i form) read → ((x : A) → Clean shape fields (i + 1) → Tells shape fields holds (then x))
    → Tells shape fields holds (read >>= then)
reads_field shape fields holds i form read then wants clean (faulty cause e f) more = grind arith
reads_field shape fields holds i form read then wants clean (fine x e right) more = rw e (more x (passes shape fields i form wants right clean))

-- the last field
pub reads_last : {A : Type 0} (shape : List Form) (fields : List (List ℕ)) (holds : A → Type 0) (i : ℕ) (form : Form) (read : Result A Cause)
    → slice_get shape i ≡ Some form → Clean shape fields i → length shape ≡ i + 1
    → ((x : A) → holds x) → Judged (FieldFault fields i form) read → Tells shape fields holds read
reads_last shape fields holds i form read wants clean all hold (faulty cause e f) = grind arith
reads_last shape fields holds i form read wants clean all hold (fine x e right) = rw e (rw all (passes shape fields i form wants right clean), hold x)
