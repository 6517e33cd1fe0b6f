-- The fields of a line that is read are its words, as it is written.
use Rattle.smp_script.proofs.Names.{◌≡◌, ℕ, zero, suc, Bool, true, List, [], ◌∷◌, Some, Ok, subst, slice_get, and_parts, list_all, Directive, Mode, mask_of}
use Rattle.smp_script.proofs.Names.{DirectiveFits, IsMaskText, Masks, SpellLine, directive_words, is_field}
use Rattle.smp_script.proofs.Faults.LineShapes.{Matches}

-- these fields are the words of a line, with these texts for its masks
pub record AreWords (mode : Mode) (limit online : ℕ) (fields : List (List ℕ)) (d : Directive) : Type 0 where
  pub masks : Masks
  pub words : fields ≡ directive_words masks d
  pub spell : list_all is_field fields ≡ true → SpellLine limit (masks, d)
  pub fit : DirectiveFits mode online d
  pub matches : Matches fields d

-- no texts of masks
abbrev pub no_masks : Masks
no_masks = record { mask = []; active = [] }

-- a line without masks
pub plain : (mode : Mode) (limit online : ℕ) (fields : List (List ℕ)) (d : Directive) → fields ≡ directive_words no_masks d → SpellLine limit (no_masks, d)
    → DirectiveFits mode online d → Matches fields d → AreWords mode limit online fields d
plain mode limit online fields d words spell fit matches = record { masks = no_masks; words = words; spell = λ good. spell; fit = fit; matches = matches }

all_at : (p : List ℕ → Bool) (xs : List (List ℕ)) (i : ℕ) (x : List ℕ) → list_all p xs ≡ true → slice_get xs i ≡ Some x → p x ≡ true
all_at p [] i x all h = cc
all_at p (y ∷ ys) zero x all h = let same : y ≡ x = cc in subst (λ z. p z ≡ true) same (and_parts (p y) (list_all p ys) all).0
all_at p (y ∷ ys) (suc i) x all h = all_at p ys i x (and_parts (p y) (list_all p ys) all).1 h

-- a line with one mask, at this place
pub masked : (i : ℕ) (mode : Mode) (limit online : ℕ) (fields : List (List ℕ)) (d : Directive) (text : List ℕ) (m : ℕ) → mask_of limit text ≡ Ok m
    → fields ≡ directive_words (record { mask = text; active = text }) d
    → (IsMaskText limit text m → SpellLine limit (record { mask = text; active = text }, d))
    → slice_get fields i ≡ Some text → DirectiveFits mode online d → Matches fields d → AreWords mode limit online fields d
masked i mode limit online fields d text m read words spell at fit matches = record {
  masks = record { mask = text; active = text };
  words = words;
  spell = λ good. spell (record { field = all_at is_field fields i text good at; reads = read });
  fit = fit;
  matches = matches;
}

-- a line with two
pub masked_twice : (i j : ℕ) (text : List ℕ) (m : ℕ) (other : List ℕ) (o : ℕ) (mode : Mode) (limit online : ℕ) (fields : List (List ℕ)) (d : Directive)
    → mask_of limit text ≡ Ok m → mask_of limit other ≡ Ok o → fields ≡ directive_words (record { mask = text; active = other }) d
    → (IsMaskText limit text m → IsMaskText limit other o → SpellLine limit (record { mask = text; active = other }, d))
    → slice_get fields i ≡ Some text → slice_get fields j ≡ Some other → DirectiveFits mode online d → Matches fields d → AreWords mode limit online fields d
masked_twice i j text m other o mode limit online fields d read reads words spell at there fit matches = record {
  masks = record { mask = text; active = other };
  words = words;
  spell = λ good. spell (record { field = all_at is_field fields i text good at; reads = read })
      (record { field = all_at is_field fields j other good there; reads = reads });
  fit = fit;
  matches = matches;
}
