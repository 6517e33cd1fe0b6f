-- Things by their texts.
use Rattle.smp_script.proofs.Names.{ℕ, List, [], ◌∷◌, bytes_eq, cond}

-- the first of these things that has the text, or else that
abbrev pub first_with : {A : Type 0} → (A → List ℕ) → A → List A → List ℕ → A
first_with text_of other [] text = other
first_with text_of other (x ∷ xs) text = cond (bytes_eq (text_of x) text) x (first_with text_of other xs text)
