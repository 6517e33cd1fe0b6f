-- The faults of one line, by what reading its fields tells.
use Rattle.smp_script.proofs.Names.{◌≡◌, ℕ, ◌+◌, ◌<◌, ◌≤◌, Bool, true, false, List, [], ◌∷◌, length, Some, Result, Ok, Err, refl, sym, ◌∙◌, arith, subst, find}
use Rattle.smp_script.proofs.Names.{slice_get, cases_Bool, cases_lt, and_parts, slice_get_within, Cause, TooLong, Cut, Word, SharedKey, Setting, Line}
use Rattle.smp_script.proofs.Names.{fields_of, Form, has_shape, has_word, shape_of, shapes_of, LineFault, past_lines, unended, no_shape, wrong_field}
use Rattle.smp_script.proofs.Names.{shared_key, past_events}
use Rattle.smp_script.proofs.Faults.FieldFaults.{Clean, FirstWrong}
use Rattle.smp_script.proofs.Faults.LineShapes.{TellsLine, shapeless, shaped}

-- a shape has as many fields as the line
find_passes : {A : Type 0} (p : A → Bool) (xs : List A) (x : A) → find p xs ≡ Some x → p x ≡ true
find_passes p [] x h = cc
find_passes p (y ∷ ys) x h = grind (arith, cases_Bool, find_passes p ys x)

same_length : (fields : List (List ℕ)) (shape : List Form) → has_shape fields shape ≡ true → length shape ≡ length fields
same_length [] [] h = refl
same_length (field ∷ fields) (form ∷ forms) h = omega (arith, same_length fields forms (and_parts (has_shape fields forms) (has_word form field) h).0)
same_length _ _ h = cc

shape_length : (setting : Setting) (n : ℕ) (fields : List (List ℕ)) (shape : List Form) → shape_of setting n fields ≡ Some shape → length shape ≡ length fields
shape_length setting n fields shape s = same_length fields shape (find_passes (has_shape fields) (shapes_of setting n) shape s)

pub place_within : (setting : Setting) (n : ℕ) (fields : List (List ℕ)) (shape : List Form) (i : ℕ) (form : Form) → shape_of setting n fields ≡ Some shape
    → slice_get shape i ≡ Some form → i < length fields
place_within setting n fields shape i form s w = omega (arith, shape_length setting n fields shape s, slice_get_within shape i form w)

-- a line has no fault of a lower rank
abbrev pub NoneBelow : Setting → ℕ → ℕ → Type 0 → Line → ℕ → Type 0
NoneBelow setting n events shared line rank = (k : ℕ) (cause : Cause) → k < rank → LineFault setting n events shared line k cause → ⊥

-- its first fault
pub record FirstOf (setting : Setting) (n events : ℕ) (shared : Type 0) (line : Line) (cause : Cause) : Type 0 where
  pub rank : ℕ
  pub fault : LineFault setting n events shared line rank cause
  pub least : NoneBelow setting n events shared line rank

pub lines_first : (setting : Setting) (n events : ℕ) (shared : Type 0) (line : Line) → 2000 < n → FirstOf setting n events shared line TooLong
lines_first setting n events shared line h = record { rank = 0; fault = past_lines h; least = λ k cause below f. omega arith }

only_lines : (setting : Setting) (n events : ℕ) (shared : Type 0) (line : Line) → n ≤ 2000 → NoneBelow setting n events shared line 1
only_lines setting n events shared line h k cause below (past_lines f) = omega arith
only_lines setting n events shared line h k cause below _ = omega arith

pub end_first : (setting : Setting) (n events : ℕ) (shared : Type 0) (line : Line) → n ≤ 2000 → line.ended ≡ false → FirstOf setting n events shared line Cut
end_first setting n events shared line h e = record { rank = 1; fault = unended e; least = only_lines setting n events shared line h }

only_ends : (setting : Setting) (n events : ℕ) (shared : Type 0) (line : Line) → n ≤ 2000 → line.ended ≡ true → NoneBelow setting n events shared line 2
only_ends setting n events shared line h e k cause below (past_lines f) = omega arith
only_ends setting n events shared line h e k cause below (unended f) = let bad : true ≡ false = sym e ∙ f in cc
only_ends setting n events shared line h e k cause below _ = omega arith

-- a line of this shape whose first fields are right
clean_to : (setting : Setting) (n events : ℕ) (shared : Type 0) (line : Line) (shape : List Form) (i : ℕ) → n ≤ 2000 → line.ended ≡ true
    → shape_of setting n (fields_of line.text) ≡ Some shape → i ≤ length (fields_of line.text) → Clean shape (fields_of line.text) i
    → NoneBelow setting n events shared line (3 + i)
clean_to setting n events shared line shape i h e s within clean k cause below (past_lines f) = omega arith
clean_to setting n events shared line shape i h e s within clean k cause below (unended f) = let bad : true ≡ false = sym e ∙ f in cc
clean_to setting n events shared line shape i h e s within clean k cause below (no_shape f) = cc
clean_to setting n events shared line shape i h e s within clean k cause below (wrong_field j {shape = other} {form = form} t w f) = search arith
clean_to setting n events shared line shape i h e s within clean k cause below _ = omega arith

-- a line with nothing wrong in its fields, whose key no other CPU has
clean_past : (setting : Setting) (n events : ℕ) (shared : Type 0) (line : Line) (shape : List Form) → n ≤ 2000 → line.ended ≡ true
    → shape_of setting n (fields_of line.text) ≡ Some shape → Clean shape (fields_of line.text) (length shape) → (shared → ⊥)
    → NoneBelow setting n events shared line (4 + length (fields_of line.text))
clean_past setting n events shared line shape h e s clean apart k cause below (past_lines f) = omega arith
clean_past setting n events shared line shape h e s clean apart k cause below (unended f) = let bad : true ≡ false = sym e ∙ f in cc
clean_past setting n events shared line shape h e s clean apart k cause below (no_shape f) = cc
clean_past setting n events shared line shape h e s clean apart k cause below (wrong_field j {shape = other} {form = form} t w f) =
    let same : other ≡ shape = cc in
    let here : slice_get shape j ≡ Some form = subst (λ x. slice_get x j ≡ Some form) same w in
    clean j form cause (slice_get_within shape j form here) here f
clean_past setting n events shared line shape h e s clean apart k cause below (shared_key f) = apart f
clean_past setting n events shared line shape h e s clean apart k cause below (past_events f) = omega arith

-- no fault has a higher rank
past_all : (setting : Setting) (n events : ℕ) (shared : Type 0) (line : Line) (shape : List Form) → shape_of setting n (fields_of line.text) ≡ Some shape
    → events ≤ 100000 → (k : ℕ) (cause : Cause) → 4 + length (fields_of line.text) ≤ k → LineFault setting n events shared line k cause → ⊥
past_all setting n events shared line shape s under k cause far (wrong_field j {shape = other} {form = form} t w f) = search (place_within, arith)
past_all setting n events shared line shape s under k cause far (past_events f) = omega arith
past_all setting n events shared line shape s under k cause far _ = omega arith

-- and with no event too many
all_clean : (setting : Setting) (n events : ℕ) (shared : Type 0) (line : Line) (shape : List Form) → n ≤ 2000 → line.ended ≡ true
    → shape_of setting n (fields_of line.text) ≡ Some shape → Clean shape (fields_of line.text) (length shape) → (shared → ⊥) → events ≤ 100000
    → (k : ℕ) (cause : Cause) → LineFault setting n events shared line k cause → ⊥
all_clean setting n events shared line shape h e s clean apart under k cause f = search (cases_lt, clean_past, past_all, arith)

-- the first fault of a line that is not read
shape_first : (setting : Setting) (n events : ℕ) (shared : Type 0) (line : Line) (shape : List Form) (cause : Cause) → n ≤ 2000 → line.ended ≡ true
    → shape_of setting n (fields_of line.text) ≡ Some shape → FirstWrong shape (fields_of line.text) cause → FirstOf setting n events shared line cause
shape_first setting n events shared line shape cause h e s w =
    let within = place_within setting n (fields_of line.text) shape w.place w.form s w.wants in
    record {
      rank = 3 + w.place;
      fault = wrong_field w.place s w.wants w.wrong;
      least = clean_to setting n events shared line shape w.place h e s (omega arith) w.before;
    }

pub read_first : {B : Type 0} (setting : Setting) (n events : ℕ) (shared : Type 0) (line : Line) (holds : B → Type 0) (read : Result B Cause) (cause : Cause)
    → n ≤ 2000 → line.ended ≡ true → TellsLine (shapes_of setting n) (fields_of line.text) holds read → read ≡ Err cause
    → FirstOf setting n events shared line cause
read_first {B} setting n events shared line holds read cause h e (shapeless s is) bad =
    let same : Word ≡ cause = let t : ◌≡◌ {A = Result B Cause} (Err Word) (Err cause) = sym is ∙ bad in cc in
    subst (λ c. FirstOf setting n events shared line c) same (record { rank = 2; fault = no_shape s; least = only_ends setting n events shared line h e })
read_first setting n events shared line holds read cause h e (shaped shape by_shape s is told) bad = search (shape_first, arith)

-- a line that is read
pub record RightLine {B : Type 0} (setting : Setting) (n : ℕ) (line : Line) (holds : B → Type 0) (b : B) : Type 0 where
  pub shape : List Form
  pub has : shape_of setting n (fields_of line.text) ≡ Some shape
  pub clean : Clean shape (fields_of line.text) (length shape)
  pub holding : holds b

pub read_right : {B : Type 0} (setting : Setting) (n : ℕ) (line : Line) (holds : B → Type 0) (read : Result B Cause) (b : B)
    → TellsLine (shapes_of setting n) (fields_of line.text) holds read → read ≡ Ok b → RightLine setting n line holds b
read_right {B} setting n line holds read b (shapeless s is) good = let t : ◌≡◌ {A = Result B Cause} (Err Word) (Ok b) = sym is ∙ good in cc
read_right setting n line holds read b (shaped shape by_shape s is told) good = search arith

-- it has no fault, unless another CPU has its key, or it makes too many events
pub right_line : {B : Type 0} (setting : Setting) (n events : ℕ) (shared : Type 0) (line : Line) (holds : B → Type 0) (b : B) → n ≤ 2000 → line.ended ≡ true
    → RightLine setting n line holds b → (shared → ⊥) → events ≤ 100000 → (k : ℕ) (cause : Cause) → LineFault setting n events shared line k cause → ⊥
right_line setting n events shared line holds b h e r apart under = all_clean setting n events shared line r.shape h e r.has r.clean apart under

pub shared_first : {B : Type 0} (setting : Setting) (n events : ℕ) (shared : Type 0) (line : Line) (holds : B → Type 0) (b : B) → n ≤ 2000
    → line.ended ≡ true → RightLine setting n line holds b → shared → FirstOf setting n events shared line SharedKey
shared_first setting n events shared line holds b h e r is =
    let size = shape_length setting n (fields_of line.text) r.shape r.has in
    record {
      rank = 3 + length (fields_of line.text);
      fault = shared_key is;
      least = clean_to setting n events shared line r.shape (length (fields_of line.text)) h e r.has (omega arith)
          (subst (λ i. Clean r.shape (fields_of line.text) i) size r.clean);
    }

pub events_first : {B : Type 0} (setting : Setting) (n events : ℕ) (shared : Type 0) (line : Line) (holds : B → Type 0) (b : B) → n ≤ 2000
    → line.ended ≡ true → RightLine setting n line holds b → (shared → ⊥) → 100000 < events → FirstOf setting n events shared line TooLong
events_first setting n events shared line holds b h e r apart over = record {
  rank = 4 + length (fields_of line.text);
  fault = past_events over;
  least = clean_past setting n events shared line r.shape h e r.has r.clean apart;
}
