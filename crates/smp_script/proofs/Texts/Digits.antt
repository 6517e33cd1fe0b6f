-- Digits, from the front.
use Rattle.smp_script.proofs.Names.{◌≡◌, ℕ, ◌+◌, ◌-◌, ◌*◌, ◌<◌, ◌≤◌, Bool, true, ◌&&◌, min, List, [], ◌∷◌, ◌++◌, length, take, get_or, refl, arith, list_all}
use Rattle.smp_script.proofs.Names.{nat_tests, take_more, is_digit, value_after}

value_after_push : (n : ℕ) (xs : List ℕ) (b : ℕ) → value_after n (xs ++ b ∷ []) ≡ value_after n xs * 10 + (b - 48)
value_after_push n [] b = refl
value_after_push n (x ∷ xs) b = value_after_push (n * 10 + (x - 48)) xs b

list_all_push : (p : ℕ → Bool) (xs : List ℕ) (b : ℕ) → list_all p (xs ++ b ∷ []) ≡ (list_all p xs && p b)
list_all_push p [] b = grind arith
list_all_push p (x ∷ xs) b = grind (arith, list_all_push p xs b)

-- one digit more
pub number_more : (text : List ℕ) (i v limit : ℕ) → i < length text → 48 ≤ get_or text i 0 → get_or text i 0 ≤ 57
    → list_all is_digit (take i text) ≡ true → v ≡ min (value_after 0 (take i text)) limit
    → (list_all is_digit (take (i + 1) text) ≡ true) × (min (v * 10 + (get_or text i 0 - 48)) limit ≡ min (value_after 0 (take (i + 1) text)) limit)
number_more text i v limit h low high all e =
    let d = get_or text i 0 in
    let t : take (i + 1) text ≡ take i text ++ d ∷ [] = take_more text i 0 h in
    rw t (rw (list_all_push is_digit (take i text) d, value_after_push 0 (take i text) d) (grind (arith, nat_tests, all), omega (arith, e)))
