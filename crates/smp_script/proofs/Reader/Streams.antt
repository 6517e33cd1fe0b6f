-- Known bytes that grow twice, and a write that took some.
use Rattle.std.proofs.Common.{◌≡◌, ℕ, ◌<◌, Bool, true, false, ◌==◌, ◌&&◌, ◌||◌, List, ◌++◌, Option, Some, None, ap, ◌∙◌, append_assoc, arith, ne_eqb, refl}
use Rattle.std.specs.Io.KnownBytes.{Appends}

pub appends_both : (a b c : Option (List ℕ)) (xs ys : List ℕ) → Appends a b xs → Appends b c ys → Appends a c (xs ++ ys)
appends_both None b c xs ys p q = tt
appends_both (Some ws) None c xs ys p q = absurd p
appends_both (Some ws) (Some bs) None xs ys p q = absurd q
appends_both (Some ws) (Some bs) (Some cs) xs ys p q = q ∙ ap (λ l. l ++ ys) p ∙ append_assoc ws xs ys

-- a write that took some bytes has not failed
pub took_some : (failed some : Bool) (n : ℕ) → 0 < n → (failed || (n == 0 && some)) ≡ failed
took_some true some n more = refl
took_some false some n more = ap (λ b. b && some) (ne_eqb n 0 (λ none. omega arith))
