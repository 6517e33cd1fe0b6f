-- Lines and fields, from the front.
use Rattle.smp_script.proofs.Names.{◌≡◌, ℕ, suc, zero, ◌<◌, true, false, List, [], ◌∷◌, length, take, drop, get_or, refl, arith, nat_tests, lines_of, parts_of}

-- a text with no such byte is one part
pub parts_none : (mark : ℕ) (bs : List ℕ) → ((i : ℕ) → i < length bs → get_or bs i 0 ≡ mark → ⊥) → parts_of mark bs ≡ bs ∷ []
parts_none mark [] none = refl
parts_none mark (b ∷ bs) none = grind (arith, nat_tests, parts_none mark bs (λ i h e. none (suc i) (omega arith) e), none 0)

-- the first one ends the first part
pub parts_some : (mark : ℕ) (bs : List ℕ) (i : ℕ) → i < length bs → get_or bs i 0 ≡ mark → ((k : ℕ) → k < i → get_or bs k 0 ≡ mark → ⊥)
    → parts_of mark bs ≡ take i bs ∷ parts_of mark (drop (suc i) bs)
parts_some mark [] i h e none = absurd (omega arith)
parts_some mark (b ∷ bs) zero h e none = search (nat_tests, arith)
parts_some mark (b ∷ bs) (suc i) h e none = grind (arith, nat_tests, parts_some mark bs i (omega arith) e (λ k l. none (suc k) (omega arith)), none 0)

-- a line feed ends the first line
pub lines_some : (bs : List ℕ) (i : ℕ) → i < length bs → get_or bs i 0 ≡ 10 → ((k : ℕ) → k < i → get_or bs k 0 ≡ 10 → ⊥)
    → lines_of bs ≡ record { text = take i bs; ended = true } ∷ lines_of (drop (suc i) bs)
lines_some [] i h e none = absurd (omega arith)
lines_some (b ∷ bs) zero h e none = search (nat_tests, arith)
lines_some (b ∷ bs) (suc i) h e none = grind (arith, nat_tests, lines_some bs i (omega arith) e (λ k l. none (suc k) (omega arith)), none 0)

-- a text with no line feed is one line that nothing ends
pub lines_none : (bs : List ℕ) → 0 < length bs → ((k : ℕ) → k < length bs → get_or bs k 0 ≡ 10 → ⊥) → lines_of bs ≡ record { text = bs; ended = false } ∷ []
lines_none [] h none = absurd (omega arith)
lines_none (b ∷ []) h none = grind (arith, nat_tests, none 0)
lines_none (b ∷ c ∷ bs) h none = grind (arith, nat_tests, lines_none (c ∷ bs) (omega arith) (λ k l. none (suc k) (omega arith)), none 0)
