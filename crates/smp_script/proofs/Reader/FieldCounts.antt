-- Lists of arguments that are too short or too long.
use Rattle.smp_script.proofs.Names.{◌≡◌, ◌<◌, ◌⊎◌, List, [], ◌∷◌, map, length, Err, refl, arith, ℕ, inl, inr, Word, begins_of, posts_of, start_of, do_of}

-- a post has six
pub not_six : {X : Type 0} (f : X → List ℕ) (cpu : List ℕ) (xs : List X) → (length xs < 6) ⊎ (6 < length xs) → Err Word ≡ posts_of cpu (map f xs)
not_six f cpu (a ∷ b ∷ c ∷ d ∷ i ∷ j ∷ []) h = elim h [ inl few ↦ absurd (omega arith) | inr many ↦ absurd (omega arith) ]
not_six f cpu _ h = refl

-- a begin five
pub not_five : {X : Type 0} (f : X → List ℕ) (limit : ℕ) (cpu : List ℕ) (xs : List X) → (length xs < 5) ⊎ (5 < length xs)
    → Err Word ≡ begins_of limit cpu (map f xs)
not_five f limit cpu (a ∷ b ∷ c ∷ d ∷ i ∷ []) h = elim h [ inl few ↦ absurd (omega arith) | inr many ↦ absurd (omega arith) ]
not_five f limit cpu _ h = refl

-- a start two at least
pub not_two : {X : Type 0} (f : X → List ℕ) (limit : ℕ) (xs : List X) → length xs < 2 → Err Word ≡ start_of limit (map f xs)
not_two f limit (a ∷ b ∷ xs) h = absurd (omega arith)
not_two f limit _ h = refl

-- a `do` line three at least
pub not_three : {X : Type 0} (f : X → List ℕ) (limit mask : ℕ) (xs : List X) → length xs < 3 → Err Word ≡ do_of limit mask (map f xs)
not_three f limit mask (a ∷ b ∷ c ∷ xs) h = absurd (omega arith)
not_three f limit mask _ h = refl
