-- Lists that a loop has walked.
use Rattle.std.proofs.Common.{◌≡◌, ℕ, ◌+◌, ◌<◌, Bool, true, List, [], ◌∷◌, ◌++◌, length, take, get_or, filter, ap, ◌∙◌, sym}
use Rattle.std.proofs.lemmas.List.{take_more, append-nil, append_assoc}
use Rattle.std.proofs.lemmas.List.Elements.{filter-append}

-- one more item is walked
pub filter_next : {X : Type 0} (p : X → Bool) (xs : List X) (i : ℕ) (d : X) → i < length xs
    → filter p (take (i + 1) xs) ≡ filter p (take i xs) ++ filter p (get_or xs i d ∷ [])
filter_next p xs i d below = ap (filter p) (take_more xs i d below) ∙ filter-append p (take i xs) (get_or xs i d ∷ [])

-- and joins the rest, where it passes
pub pushed_if : {X : Type 0} (p : X → Bool) (x : X) (front xs : List X) → p x ≡ true → front ++ (xs ++ x ∷ []) ≡ (front ++ xs) ++ filter p (x ∷ [])
pushed_if p x front xs passes = rw passes (sym (append_assoc front xs (x ∷ [])))
