-- The lines of a text that comes in pieces.
use Rattle.std.proofs.Common.{◌≡◌, ℕ, Bool, true, false, ◌==◌, if◌then◌else◌, List, [], ◌∷◌, ◌++◌, refl}
use Rattle.smp_script.specs.Lines.{Line, lines_of, onto_line}

-- the lines of a text, and what follows it
abbrev onto_text : List ℕ → List Line → List Line
onto_text [] ls = ls
onto_text (b ∷ bs) ls = onto_line b (onto_text bs ls)

abbrev more_lines : List Line → List ℕ → List Line
more_lines [] x = lines_of x
more_lines (l ∷ ls) x = if l.ended then l ∷ more_lines ls x else onto_text l.text (lines_of x)

onto_if : (b : ℕ) (ended : Bool) (t : List ℕ) (later below : List Line)
    → onto_line b (if ended then record { text = t; ended = ended } ∷ later else onto_text t below)
    ≡ (if ended then record { text = b ∷ t; ended = ended } ∷ later else onto_text (b ∷ t) below)
onto_if b true t later below = refl
onto_if b false t later below = refl

onto_more : (b : ℕ) (ls : List Line) (x : List ℕ) → onto_line b (more_lines ls x) ≡ more_lines (onto_line b ls) x
onto_more b [] x = refl
onto_more b (l ∷ ls) x = onto_if b l.ended l.text (more_lines ls x) (lines_of x)

lines_if : (here : Bool) (b : ℕ) (ls : List Line) (x : List ℕ)
    → (if here then record { text = []; ended = true } ∷ more_lines ls x else onto_line b (more_lines ls x))
    ≡ more_lines (if here then record { text = []; ended = true } ∷ ls else onto_line b ls) x
lines_if true b ls x = refl
lines_if false b ls x = onto_more b ls x

lines_more : (a x : List ℕ) → lines_of (a ++ x) ≡ more_lines (lines_of a) x
lines_more [] x = refl
lines_more (b ∷ bs) x = rw (lines_more bs x) (lines_if (b == 10) b (lines_of bs) x)

-- a line that is ended is the first whatever follows
pub ended_line : (a r x : List ℕ) (l : Line) → lines_of a ≡ l ∷ lines_of r → l.ended ≡ true → lines_of (a ++ x) ≡ l ∷ lines_of (r ++ x)
ended_line a r x l h e = rw (lines_more a x, lines_more r x, h, e) refl
