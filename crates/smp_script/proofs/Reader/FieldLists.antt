-- Fields that are not empty.
use Rattle.smp_script.proofs.Names.{◌≡◌, ℕ, zero, suc, ◌<◌, ◌≤◌, ◌^◌, inl, inr, arith, List, [], ◌∷◌, map, length, not, ◌==◌, ◌&&◌, refl, ap, list_all}
use Rattle.smp_script.proofs.Names.{AllByRecursion, cases_Bool, AreShort, fields_of, onto_first, are_whole}

pub are_whole_map : {X : Type 0} (f : X → List ℕ) (fs : List X) → are_whole (map f fs) ≡ list_all (λ x. not (length (f x) == 0)) fs
are_whole_map f [] = refl
are_whole_map f (x ∷ xs) = ap (λ b. not (length (f x) == 0) && b) (are_whole_map f xs)

more : (n : ℕ) (ts : List (List ℕ)) → AllByRecursion (λ t. length t ≤ n) ts → AllByRecursion (λ t. length t ≤ suc n) ts
more n [] h = tt
more n (t ∷ ts) h = (omega (arith, h.0), more n ts h.1)

onto : (n b : ℕ) (ts : List (List ℕ)) → AllByRecursion (λ t. length t ≤ n) ts → AllByRecursion (λ t. length t ≤ suc n) (onto_first b ts)
onto n b [] h = (omega arith, tt)
onto n b (t ∷ ts) h = (omega (arith, h.0), more n ts h.1)

-- no field is longer than its line
pub fields_within : (n : ℕ) (bs : List ℕ) → length bs ≤ n → AllByRecursion (λ t. length t ≤ n) (fields_of bs)
fields_within n [] h = (omega arith, tt)
fields_within zero (b ∷ bs) h = absurd (omega arith)
fields_within (suc n) (b ∷ bs) h =
    let rest = fields_within n bs (omega arith) in
    elim (cases_Bool (b == 32)) [
      | inl space ↦ rw space (omega arith, more n (fields_of bs) rest)
      | inr other ↦ rw other (onto n b (fields_of bs) rest)
    ]

shorter : (n : ℕ) (ts : List (List ℕ)) → n < 2 ^ 32 → AllByRecursion (λ t. length t ≤ n) ts → AreShort ts
shorter n [] h s = tt
shorter n (t ∷ ts) h s = (omega (arith, s.0), shorter n ts h s.1)

-- the fields of a short line are short
pub fields_short : (bs : List ℕ) (ts : List (List ℕ)) → length bs < 2 ^ 32 → ts ≡ fields_of bs → AreShort ts
fields_short bs ts h e = rw e (shorter (length bs) (fields_of bs) h (fields_within (length bs) bs (omega arith)))
