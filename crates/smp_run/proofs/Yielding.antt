-- What a loop over all items has written.
use Rattle.std.proofs.Common.{◌≡◌, ℕ, List, ◌++◌, map, sym, ap, ◌∙◌}
use Rattle.std.specs.List.{flat_map}
use Rattle.std.proofs.lemmas.List.{map-id}

-- where the items of a loop were all
pub all_yielded : (f : ℕ → List ℕ) (xs all out first : List ℕ) → map (λ x. x) xs ≡ all → out ≡ first ++ flat_map f xs → out ≡ first ++ flat_map f all
all_yielded f xs all out first e h = h ∙ ap (λ ys. first ++ flat_map f ys) (sym (map-id xs) ∙ e)
