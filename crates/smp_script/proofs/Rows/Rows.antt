-- Rows: a shape, and what a line of that shape asks for by what its fields say. What holds of each row is shown once, by its forms.
use Rattle.smp_script.proofs.Names.{◌≡◌, ℕ, zero, suc, ◌==◌, Bool, true, false, not, ◌&&◌, cond, List, [], ◌∷◌, map, length, length-drop, drop, Some, None}
use Rattle.smp_script.proofs.Names.{Result, Ok, Err, refl, sym, ap, ◌∙◌, inl, inr, arith, subst, slice_get, slice_index_or, Option, AllByRecursion, bytes_eq}
use Rattle.smp_script.proofs.Names.{cases_Bool, and_parts, Cause, Word, are_whole, ◌>>=◌, FieldFault, Form, word, words, online, items, has_shape, has_word}
use Rattle.smp_script.proofs.Names.{is_one_of}
use Rattle.smp_script.proofs.Faults.FieldFaults.{Clean, Judged, Tells, none_yet, reads_field}
use Rattle.smp_script.proofs.Faults.LineShapes.{TellsLine, shapeless, shaped, skips}
use Rattle.smp_script.proofs.Rows.Forms.{ForField, Known, Said, Sound, form_judged, form_said, read_form}
use Rattle.smp_script.proofs.Spelled.ReadParts.{both, same_word}

-- what is made of what fields of these forms say
abbrev pub Makes : List Form → Type 0 → Type 0
Makes [] R = R
Makes (form ∷ forms) R = Said form → Makes forms R

-- the fields, read from left to right
abbrev pub reads : {R : Type 0} (forms : List Form) → Makes forms R → List (List ℕ) → Result R Cause
reads [] r texts = Ok r
reads (form ∷ forms) make [] = Err Word
reads (form ∷ forms) make (text ∷ texts) = read_form form text >>= λ x. reads forms (make x) texts

dropped : {A : Type 0} (i : ℕ) (xs : List A) (x : A) (rest : List A) (or : A) → drop i xs ≡ x ∷ rest
    → (slice_get xs i ≡ Some x) × (slice_index_or xs i or ≡ x) × (drop (suc i) xs ≡ rest)
dropped zero [] x rest or h = cc
dropped zero (y ∷ ys) x rest or h = (cc, cc, cc)
dropped (suc i) [] x rest or h = cc
dropped (suc i) (y ∷ ys) x rest or h = dropped i ys x rest or h

-- what reading them tells of their faults
pub reads_told : (R : Type 0) (shape : List Form) (fields : List (List ℕ)) (i : ℕ) (forms : List Form) (make : Makes forms R) (texts : List (List ℕ))
    → drop i shape ≡ forms → drop i fields ≡ texts → has_shape texts forms ≡ true → AllByRecursion Known forms → Clean shape fields i
    → Tells shape fields (λ r. Unit {0}) (reads forms make texts)
reads_told R shape fields i [] make texts at there has known clean =
    (λ j form cause below w f. clean j form cause (omega (arith, length-drop i shape, ap length at)) w f, tt)
reads_told R shape fields i (form ∷ forms) make [] at there has known clean = cc
reads_told R shape fields i (form ∷ forms) make (text ∷ texts) at there has known clean =
    let d = dropped i shape form forms form at in
    let t = dropped i fields text texts [] there in
    let judged : Judged (FieldFault fields i form) (read_form form text) =
    subst (λ u. Judged (FieldFault fields i form) (read_form form u)) t.1 (form_judged fields i form known.0) in
    reads_field shape fields (λ r. Unit {0}) i form (read_form form text) (λ x. reads forms (make x) texts) d.0 clean judged (λ x next.
    reads_told R shape fields (suc i) forms (make x) texts d.2 t.2 (and_parts (has_shape texts forms) (has_word form text) has).0 known.1
    (λ j other cause below w f. next j other cause (omega arith) w f))

-- of all fields that may stand in a line of these forms, and what is made of them
abbrev pub ForAll : {R : Type 0} (forms : List Form) → Makes forms R → (List (List ℕ) → R → Type 0) → Type 0
ForAll [] r P = P [] r
ForAll (form ∷ forms) make P = ForField form (λ text x. ForAll forms (make x) (λ texts r. P (text ∷ texts) r))

-- fields that are read are some of them
pub reads_said : {R : Type 0} (forms : List Form) (make : Makes forms R) (P : List (List ℕ) → R → Type 0) (texts : List (List ℕ)) (r : R)
    → AllByRecursion Sound forms → has_shape texts forms ≡ true → reads forms make texts ≡ Ok r → ForAll forms make P → P texts r
reads_said [] make P [] r sound has h all = let same : make ≡ r = cc in subst (P []) same all
reads_said (form ∷ forms) make P (text ∷ texts) r sound has h all =
    let parts = and_parts (has_shape texts forms) (has_word form text) has in
    let a = both (read_form form text) (λ x. reads forms (make x) texts) r h in
    reads_said forms (make a.value) (λ more x. P (text ∷ more) x) texts r sound.1 parts.0 a.then
    (form_said form (λ t x. ForAll forms (make x) (λ more y. P (t ∷ more) y)) text a.value sound.0 parts.1 a.first all)
reads_said _ make P _ r sound has h all = cc

-- the first of the words that the text is
abbrev pub choose : {X : Type 0} → List (List ℕ) → List ℕ → (List ℕ → X) → X → X
choose [] text then or = or
choose (w ∷ ws) text then or = cond (bytes_eq text w) (then w) (choose ws text then or)

chooses : {X : Type 0} (ws : List (List ℕ)) (text : List ℕ) (then : List ℕ → X) (or : X) → choose ws text then or ≡ cond (is_one_of ws text) (then text) or
chooses [] text then or = refl
chooses (w ∷ ws) text then or = elim (cases_Bool (bytes_eq text w)) [
  | inl is ↦ rw is (ap then (sym (same_word text w is)))
  | inr other ↦ rw other (chooses ws text then or)
]

-- the words of a form that has some
abbrev pub texts_of : Form → Option (List (List ℕ))
texts_of (word w) = Some (w ∷ [])
texts_of (words ws) = Some ws
texts_of _ = None

abbrev pub choose_of : {X : Type 0} → Option (List (List ℕ)) → List ℕ → (List ℕ → X) → X → X
choose_of None text then or = then text
choose_of (Some ws) text then or = choose ws text then or

choose_word : {X : Type 0} (form : Form) (text : List ℕ) (then : List ℕ → X) (or : X) → Sound form → not (length text == 0) ≡ true
    → choose_of (texts_of form) text then or ≡ cond (has_word form text) (then text) or
choose_word (word w) text then or sound some = elim (cases_Bool (bytes_eq text w)) [
  | inl is ↦ rw is (ap then (sym (same_word text w is)))
  | inr other ↦ rw other refl
]
choose_word (words ws) text then or sound some = chooses ws text then or
choose_word (online limit) text then or sound some = absurd sound
choose_word items text then or sound some = absurd sound
choose_word _ text then or sound some = rw some refl

-- fields whose words are right, where there are as many as forms
abbrev pub tries : {X : Type 0} → List Form → List (List ℕ) → (List (List ℕ) → X) → X → X
tries [] texts then or = then []
tries (form ∷ forms) [] then or = or
tries (form ∷ forms) (text ∷ texts) then or = choose_of (texts_of form) text (λ t. tries forms texts (λ ts. then (t ∷ ts)) or) or

abbrev pub are_as_many : List Form → List (List ℕ) → Bool
are_as_many [] [] = true
are_as_many (form ∷ forms) (text ∷ texts) = are_as_many forms texts
are_as_many _ _ = false

pub cond_same : {A : Type 0} (b : Bool) (x : A) → cond b x x ≡ x
cond_same true x = refl
cond_same false x = refl

both_tests : {X : Type 0} (a b : Bool) (x y : X) → cond a (cond b x y) y ≡ cond (b && a) x y
both_tests a true x y = refl
both_tests a false x y = cond_same a y

-- they are those that have the shape
pub tries_shape : {X : Type 0} (forms : List Form) (texts : List (List ℕ)) (then : List (List ℕ) → X) (or : X) → AllByRecursion Sound forms
    → are_whole texts ≡ true → cond (are_as_many forms texts) (tries forms texts then or) or ≡ cond (has_shape texts forms) (then texts) or
tries_shape [] [] then or sound whole = refl
tries_shape [] (text ∷ texts) then or sound whole = refl
tries_shape (form ∷ forms) [] then or sound whole = refl
tries_shape (form ∷ forms) (text ∷ texts) then or sound whole =
    let parts = and_parts (not (length text == 0)) (are_whole texts) whole in
    let rest = tries_shape forms texts (λ ts. then (text ∷ ts)) or sound.1 parts.1 in
    elim (cases_Bool (are_as_many forms texts)) [
      | inl many ↦
          let more : tries forms texts (λ ts. then (text ∷ ts)) or ≡ cond (has_shape texts forms) (then (text ∷ texts)) or = rw many at rest in
          rw many (choose_word form text (λ t. tries forms texts (λ ts. then (t ∷ ts)) or) or sound.0 parts.0
          ∙ ap (λ x. cond (has_word form text) x or) more ∙ both_tests (has_word form text) (has_shape texts forms) (then (text ∷ texts)) or)
      | inr other ↦
          let none = rw other at (tries_shape {X = Bool} forms texts (λ ts. true) false sound.1 parts.1) in
          grind (arith, other, none)
    ]

-- a shape, and what is made of its fields
pub record Row (R : Type 0) : Type 0 where
  pub forms : List Form
  pub make : Makes forms R

-- the first row with as many fields, whose words are theirs
abbrev pub read_rows : {R : Type 0} → List (Row R) → List (List ℕ) → Result R Cause
read_rows [] fields = Err Word
read_rows (row ∷ rows) fields =
    cond (are_as_many row.forms fields) (tries row.forms fields (reads row.forms row.make) (read_rows rows fields)) (read_rows rows fields)

-- what a row makes is such
pub record IsRow {R : Type 0} (P : List (List ℕ) → R → Type 0) (row : Row R) : Type 0 where
  pub sound : AllByRecursion Sound row.forms
  pub all : ForAll row.forms row.make P

-- one row more
infixr 15 ◌⨾◌
pub ◌⨾◌ : {A B : Type 0} → A → B → A × B
x ⨾ y = (x, y)

pub are_rows : {R : Type 0} (P : List (List ℕ) → R → Type 0) (rows : List (Row R)) → AllByRecursion (λ row. AllByRecursion Sound row.forms) rows
    → AllByRecursion (λ row. ForAll row.forms row.make P) rows → AllByRecursion (IsRow P) rows
are_rows P [] sound all = tt
are_rows P (row ∷ rows) sound all = (record { sound = sound.0; all = all.0 }, are_rows P rows sound.1 all.1)

-- what was read is such
tells_also : {R : Type 0} (shape : List Form) (fields : List (List ℕ)) (holds : R → Type 0) (read : Result R Cause)
    → Tells shape fields (λ r. Unit {0}) read → ((r : R) → read ≡ Ok r → holds r) → Tells shape fields holds read
tells_also shape fields holds (Ok r) told all = (told.0, all r refl)
tells_also shape fields holds (Err cause) told all = told

row_told : {R : Type 0} (P : List (List ℕ) → R → Type 0) (row : Row R) (fields : List (List ℕ)) → IsRow P row → AllByRecursion Known row.forms
    → has_shape fields row.forms ≡ true → Tells row.forms fields (P fields) (reads row.forms row.make fields)
row_told {R} P row fields is known has = tells_also row.forms fields (P fields) (reads row.forms row.make fields)
    (reads_told R row.forms fields 0 row.forms row.make fields refl refl has known (none_yet row.forms fields))
    (λ r read. reads_said row.forms row.make P fields r is.sound has read is.all)

-- a shape more, which the line has not
also_told : {R : Type 0} (shape : List Form) (shapes : List (List Form)) (fields : List (List ℕ)) (holds : R → Type 0) (read : Result R Cause)
    → has_shape fields shape ≡ false → TellsLine shapes fields holds read → TellsLine (shape ∷ shapes) fields holds read
also_told shape shapes fields holds read other (shapeless none is) = shapeless (skips fields shape shapes other ∙ none) is
also_told shape shapes fields holds read other (shaped found by is same told) = shaped found by (skips fields shape shapes other ∙ is) same told

-- what reading a line by its rows tells
pub rows_told : {R : Type 0} (P : List (List ℕ) → R → Type 0) (rows : List (Row R)) (fields : List (List ℕ)) → AllByRecursion (IsRow P) rows
    → AllByRecursion (λ row. AllByRecursion Known row.forms) rows → are_whole fields ≡ true
    → TellsLine (map (λ row. row.forms) rows) fields (P fields) (read_rows rows fields)
rows_told P [] fields are known whole = shapeless refl refl
rows_told {R} P (row ∷ rows) fields are known whole =
    let tried = tries_shape row.forms fields (reads row.forms row.make) (read_rows rows fields) are.0.sound whole in
    elim (cases_Bool (has_shape fields row.forms)) [
      | inl has ↦ shaped row.forms (reads row.forms row.make fields) (rw has refl) (tried ∙ rw has refl) (row_told P row fields are.0 known.0 has)
      | inr other ↦ rw tried (rw other (also_told row.forms _ fields (P fields) _ other (rows_told P rows fields are.1 known.1 whole)))
    ]

-- a line that is read is such
pub rows_said : {R : Type 0} (P : List (List ℕ) → R → Type 0) (rows : List (Row R)) (fields : List (List ℕ)) (r : R) → AllByRecursion (IsRow P) rows
    → are_whole fields ≡ true → read_rows rows fields ≡ Ok r → P fields r
rows_said P [] fields r are whole read = cc
rows_said P (row ∷ rows) fields r are whole read =
    let tried = rw (tries_shape row.forms fields (reads row.forms row.make) (read_rows rows fields) are.0.sound whole) at read in
    elim (cases_Bool (has_shape fields row.forms)) [
      | inl has ↦ reads_said row.forms row.make P fields r are.0.sound has (rw has at tried) are.0.all
      | inr other ↦ rows_said P rows fields r are.1 whole (rw other at tried)
    ]

-- a test before a reading
pub cond_bind : {A B E : Type 0} (b : Bool) (r s : Result A E) (f : A → Result B E) → (cond b r s >>= f) ≡ cond b (r >>= f) (s >>= f)
cond_bind true r s f = refl
cond_bind false r s f = refl

-- a reading after two
pub bind_assoc : {A B C E : Type 0} (r : Result A E) (f : A → Result B E) (g : B → Result C E) → ((r >>= f) >>= g) ≡ (r >>= λ x. f x >>= g)
bind_assoc (Ok x) f g = refl
bind_assoc (Err e) f g = refl

-- what stands beside the text, or the last
abbrev pub by_text : {A : Type 0} → List (List ℕ × A) → A → List ℕ → A
by_text [] last text = last
by_text (entry ∷ entries) last text = cond (bytes_eq text entry.0) entry.1 (by_text entries last text)
