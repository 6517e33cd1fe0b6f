-- Keys that lines of two CPUs have: in a text, and among what was read.
use Rattle.smp_script.proofs.Names.{◌≡◌, ◌≢◌, ℕ, zero, suc, ◌+◌, ◌<◌, Bool, true, false, not, ◌||◌, ◌==◌, List, [], ◌∷◌, ◌++◌, take, get_or, Option, Some, None}
use Rattle.smp_script.proofs.Names.{refl, sym, ap, ◌∙◌, inl, inr, arith, slice_get, list_any, cases_Bool, and_parts, eqb-true, eq-eqb, list_any-append}
use Rattle.smp_script.proofs.Names.{list_any_more, get_or_from_slice_get, slice_get_within, Directive, SharesKey, key_in, KeyUse, is_shared, key_of, shares}
use Rattle.smp_script.proofs.Names.{Line, fields_of, lines_of}
use Rattle.std.proofs.lemmas.Bool.{ne_eqb}

-- the line has that key, for another CPU
abbrev pub has_shared : Option KeyUse → Line → Bool
has_shared mine l = is_shared mine (key_in (fields_of l.text))

-- of the first n lines one has a key, for another CPU, exactly where one of these lines has it
abbrev pub Agree : List ℕ → ℕ → List Directive → Type 0
Agree text n earlier = (mine : Option KeyUse) → list_any (has_shared mine) (take n (lines_of text)) ≡ list_any (λ e. is_shared mine (key_of e)) earlier

unshared : (mine : Option KeyUse) → is_shared mine None ≡ false
unshared None = refl
unshared (Some one) = refl

or_nothing : (b : Bool) → (b || false) ≡ b
or_nothing true = refl
or_nothing false = refl

line_more : (text : List ℕ) (n : ℕ) (line : Line) → slice_get (lines_of text) n ≡ Some line → (mine : Option KeyUse)
    → list_any (has_shared mine) (take (n + 1) (lines_of text)) ≡ (list_any (has_shared mine) (take n (lines_of text)) || has_shared mine line)
line_more text n line here mine =
    let same : get_or (lines_of text) n line ≡ line = get_or_from_slice_get (lines_of text) n line line here in
    list_any_more (has_shared mine) (lines_of text) n line (slice_get_within (lines_of text) n line here)
    ∙ ap (λ l. list_any (has_shared mine) (take n (lines_of text)) || has_shared mine l) same

-- a line with no key
pub agree_none : (text : List ℕ) (n : ℕ) (line : Line) → slice_get (lines_of text) n ≡ Some line → key_in (fields_of line.text) ≡ None
    → Agree text n [] → Agree text (n + 1) []
agree_none text n line here e a = λ mine.
    let before = list_any (has_shared mine) (take n (lines_of text)) in
    line_more text n line here mine ∙ ap (λ k. before || is_shared mine k) e ∙ ap (λ b. before || b) (unshared mine) ∙ or_nothing before ∙ a mine

-- a line that was read
pub agree_more : (text : List ℕ) (n : ℕ) (line : Line) (earlier : List Directive) (d : Directive) → slice_get (lines_of text) n ≡ Some line
    → key_in (fields_of line.text) ≡ key_of d → Agree text n earlier → Agree text (n + 1) (earlier ++ d ∷ [])
agree_more text n line earlier d here e a = search (line_more, or_nothing, list_any-append, arith)

-- a line among the first n that has the key
record Found (lines : List Line) (n : ℕ) (mine : Option KeyUse) : Type 0 where
  place : ℕ
  line : Line
  below : place < n
  there : slice_get lines place ≡ Some line
  is : has_shared mine line ≡ true

found : (lines : List Line) (n : ℕ) (mine : Option KeyUse) → list_any (has_shared mine) (take n lines) ≡ true → Found lines n mine
found [] zero mine h = cc
found [] (suc n) mine h = cc
found (l ∷ ls) zero mine h = cc
found (l ∷ ls) (suc n) mine h = elim (cases_Bool (has_shared mine l)) [
  | inl here ↦ record { place = 0; line = l; below = omega arith; there = refl; is = here }
  | inr other ↦
      let f = found ls n mine (rw other at h) in
      record { place = suc f.place; line = f.line; below = omega (arith, f.below); there = f.there; is = f.is }
]

meets : (lines : List Line) (n place : ℕ) (mine : Option KeyUse) (line : Line) → place < n → slice_get lines place ≡ Some line
    → has_shared mine line ≡ true → list_any (has_shared mine) (take n lines) ≡ true
meets [] n place mine line below there is = cc
meets (l ∷ ls) zero place mine line below there is = absurd (omega arith)
meets (l ∷ ls) (suc n) zero mine line below there is = search arith
meets (l ∷ ls) (suc n) (suc place) mine line below there is = grind (cases_Bool, meets ls n place mine line (omega arith) there is, arith)

-- two uses of one key by two CPUs
record Both (mine theirs : Option KeyUse) : Type 0 where
  one : KeyUse
  other : KeyUse
  mine_is : mine ≡ Some one
  theirs_is : theirs ≡ Some other
  key : one.1 ≡ other.1
  apart : one.0 ≢ other.0

differ : (x y : ℕ) → not (x == y) ≡ true → x ≢ y
differ x y h e = let same = eq-eqb x y e in let bad : false ≡ true = sym (ap not same) ∙ h in cc

both : (mine theirs : Option KeyUse) → is_shared mine theirs ≡ true → Both mine theirs
both None theirs h = cc
both (Some one) None h = cc
both (Some one) (Some other) h = search (and_parts, eqb-true, differ, arith)

-- a line that shares its key with one that was read does so in the text
pub shares_told : (text : List ℕ) (n : ℕ) (line : Line) (earlier : List Directive) (d : Directive) → slice_get (lines_of text) n ≡ Some line
    → key_in (fields_of line.text) ≡ key_of d → Agree text n earlier → shares earlier d ≡ true → SharesKey text n
shares_told text n line earlier d here e a h =
    let f = found (lines_of text) n (key_of d) (a (key_of d) ∙ h) in
    let b = both (key_of d) (key_in (fields_of f.line.text)) f.is in
    record {
      place = f.place;
      is_before = f.below;
      line = line;
      earlier = f.line;
      here = here;
      there = f.there;
      cpu = b.one.0;
      other = b.other.0;
      key = b.one.1;
      uses = e ∙ b.mine_is;
      used = b.theirs_is ∙ ap (λ k. Some (b.other.0, k)) (sym b.key);
      apart = b.apart;
    }

-- and the other way round
pub not_shares : (text : List ℕ) (n : ℕ) (line : Line) (earlier : List Directive) (d : Directive) → slice_get (lines_of text) n ≡ Some line
    → key_in (fields_of line.text) ≡ key_of d → Agree text n earlier → shares earlier d ≡ false → SharesKey text n → ⊥
not_shares text n line earlier d here e a h s =
    let same : Some s.line ≡ Some line = sym s.here ∙ here in
    let one : s.line ≡ line = cc in
    let mine : key_of d ≡ Some (s.cpu, s.key) = sym e ∙ rw one at s.uses in
    let is : has_shared (key_of d) s.earlier ≡ true = rw (mine, s.used, eq-eqb s.key s.key refl, ne_eqb s.cpu s.other s.apart) refl in
    let bad : false ≡ true = sym h ∙ sym (a (key_of d)) ∙ meets (lines_of text) n s.place (key_of d) s.earlier s.is_before s.there is in
    cc

-- a line with no key shares none
pub quiet_apart : (text : List ℕ) (n : ℕ) (line : Line) → slice_get (lines_of text) n ≡ Some line → key_in (fields_of line.text) ≡ None → SharesKey text n → ⊥
quiet_apart text n line here e s = search arith
