-- The places of addresses in a list that grows.
use Rattle.std.proofs.Common.{◌≡◌, ℕ, ◌+◌, ◌<◌, ◌==◌, Bool, true, false, cond, Option, Some, None, List, [], ◌∷◌, ◌++◌, length, arith, refl}
use Rattle.std.proofs.Common.{sym, ap, subst, ◌∙◌, eqb, eq-eqb, eqb-true}
use Rattle.std.specs.Prelude.{IfSome, OnOk, Result, Ok, Err, if◌then◌else◌, is_err, is_ok}
use Rattle.trace_ftrace.specs.Records.{record_place, AreNumbered}

abbrev place_from : Bool → ℕ → ℕ → List ℕ → Option ℕ
place_from here i a xs = if here then Some i else record_place (i + 1) a xs

-- an address that is not there has the place behind the last where it joins the list
joined_behind : (b : Bool) (i a x : ℕ) (xs : List ℕ) → (record_place (i + 1) a xs ≡ None → record_place (i + 1) a (xs ++ a ∷ []) ≡ Some (i + 1 + length xs))
    → place_from b i a xs ≡ None → place_from b i a (xs ++ a ∷ []) ≡ Some (i + length (x ∷ xs))
joined_behind true i a x xs rest none = absurd cc
joined_behind false i a x xs rest none = rest none ∙ ap (λ n. Some n) (let e : i + 1 + length xs ≡ i + length (x ∷ xs) = omega arith in e)

pub place_joined : (i a : ℕ) (xs : List ℕ) → record_place i a xs ≡ None → record_place i a (xs ++ a ∷ []) ≡ Some (i + length xs)
place_joined i a [] none = rw (eq-eqb a a refl) (ap (λ n. Some n) (let e : i ≡ i + 0 = omega arith in e))
place_joined i a (x ∷ xs) none = joined_behind (x == a) i a x xs (place_joined (i + 1) a xs) none

-- another keeps its place
pub place_kept : (i a b : ℕ) (xs : List ℕ) → (b == a) ≡ false → record_place i a (xs ++ b ∷ []) ≡ record_place i a xs
place_kept i a b [] other = rw other refl
place_kept i a b (x ∷ xs) other = ap (λ o. if x == a then Some i else o) (place_kept (i + 1) a b xs other)

-- a place is one of the list
below_behind : (b : Bool) (i a x : ℕ) (xs : List ℕ) (n : ℕ) → (record_place (i + 1) a xs ≡ Some n → n < i + 1 + length xs)
    → place_from b i a xs ≡ Some n → n < i + length (x ∷ xs)
below_behind true i a x xs n rest found = let same : i ≡ n = cc in omega (arith, same)
below_behind false i a x xs n rest found = let later = rest found in omega (arith, later)

place_below : (i a : ℕ) (xs : List ℕ) (n : ℕ) → record_place i a xs ≡ Some n → n < i + length xs
place_below i a [] n found = absurd cc
place_below i a (x ∷ xs) n found = below_behind (x == a) i a x xs n (place_below (i + 1) a xs n) found

pub place_within : (a : ℕ) (xs : List ℕ) (o : Option ℕ) → o ≡ record_place 0 a xs → IfSome o (λ i. i < length xs)
place_within a xs None e = tt
place_within a xs (Some n) e = let below = place_below 0 a xs n (sym e) in omega (arith, below)

-- the numbers are found once an address that had none has the next one
with_next : (b : Bool) (found : ℕ → Option ℕ) (a q : ℕ) (xs : List ℕ) → AreNumbered found xs → record_place 0 a xs ≡ None → eqb a q ≡ b
    → cond b (Some (length xs)) (found q) ≡ record_place 0 q (xs ++ a ∷ [])
with_next true found a q xs old none e =
    let same : a ≡ q = eqb-true a q e in
    let none_more : 0 + length xs ≡ length xs = omega arith in
    let joined : record_place 0 a (xs ++ a ∷ []) ≡ Some (length xs) = place_joined 0 a xs none ∙ ap (λ n. Some n) none_more in
    subst (λ k. Some (length xs) ≡ record_place 0 k (xs ++ a ∷ [])) same (sym joined)
with_next false found a q xs old none e = old q ∙ sym (place_kept 0 q a xs e)

pub numbered_on : (found found' : ℕ → Option ℕ) (a n : ℕ) (xs : List ℕ) → AreNumbered found xs → record_place 0 a xs ≡ None → n ≡ length xs
    → ((q : ℕ) → found' q ≡ cond (eqb a q) (Some n) (found q)) → AreNumbered found' (xs ++ a ∷ [])
numbered_on found found' a n xs old none last each q =
    each q ∙ ap (λ (m : ℕ). cond (eqb a q) (Some m) (found q)) last ∙ with_next (eqb a q) found a q xs old none refl

-- what holds of an answer that is no error
pub on_ok : {T E P : Type 0} (r : Result T E) → is_err r ≡ false → OnOk r P → P
on_ok (Ok x) e p = p
on_ok (Err y) e p = absurd cc

pub pushed_ok : {T E X : Type 0} (r : Result T E) (xs ys zs : List X) → is_err r ≡ false → zs ≡ (if is_ok r then xs else ys) → zs ≡ xs
pushed_ok (Ok x) xs ys zs e p = p
pushed_ok (Err y) xs ys zs e p = absurd cc
