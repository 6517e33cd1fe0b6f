-- The items of a labels line.
use Rattle.smp_script.proofs.Names.{◌≡◌, ℕ, ◌<◌, ◌≤◌, Bool, true, false, arith, rules, ◌&&◌, List, [], ◌∷◌, map, Option, Some, None, Ok, Err, length, codes}
use Rattle.smp_script.proofs.Names.{refl, sym, ap, ◌∙◌, join_with_byte, list_all, bytes_eq, length-map, and_parts, nat_tests, AreLabels, MOST_KEYS, MOST_SITES}
use Rattle.smp_script.proofs.Names.{Range, parts_of, Item, entries_in, entry_in, has_number, entry_of, is_among, is_below, item_in}
use Rattle.std.proofs.Common.{All}
use Rattle.smp_script.proofs.Texts.Splits.{first_of, join_parts}

pub all_map : {X Y : Type 0} (p : Y → Bool) (f : X → Y) (xs : List X) → list_all p (map f xs) ≡ list_all (λ x. p (f x)) xs
all_map p f [] = refl
all_map p f (x ∷ xs) = ap (λ b. p (f x) && b) (all_map p f xs)

-- more parts than two are no item, and a branch is 0 or 1
parts_no_branch : (key rest part : List ℕ) (others : List (List ℕ)) → bytes_eq rest (codes "0") ≡ false → bytes_eq rest (codes "1") ≡ false
    → parts_of 58 rest ≡ part ∷ others → item_in (key ∷ part ∷ others) ≡ None
parts_no_branch key rest part [] h0 h1 e =
    let same : rest ≡ part = sym (join_parts 58 rest) ∙ ap (λ ps. join_with_byte 58 ps) e in
    rw (ap (λ t. bytes_eq t (codes "0")) (sym same) ∙ h0, ap (λ t. bytes_eq t (codes "1")) (sym same) ∙ h1) refl
parts_no_branch key rest part (o ∷ os) h0 h1 e = refl

pub no_branch : (key rest : List ℕ) → bytes_eq rest (codes "0") ≡ false → bytes_eq rest (codes "1") ≡ false → item_in (key ∷ parts_of 58 rest) ≡ None
no_branch key rest h0 h1 = search (first_of, parts_no_branch, arith)

below_known : (keys : ℕ) (item : Option Item) → keys ≤ MOST_KEYS → is_among keys item ≡ true → (entry_in item).key < keys
below_known keys None few h = cc
below_known keys (Some (text, branch)) few h = search (and_parts, nat_tests, arith)

-- entries of items whose keys are below a number are below it
pub entries_below : (keys : ℕ) (items : List (List ℕ)) → keys ≤ MOST_KEYS → list_all (is_below keys) items ≡ true → All (λ e. e.key < keys) (map entry_of items)
entries_below keys [] few h = search rules
entries_below keys (i ∷ is) few h = search (rules, and_parts, below_known, entries_below keys is few)

-- more items than a table has sites
pub many_items : {X : Type 0} (f : X → List ℕ) (keys : ℕ) (xs : List X) → list_all (λ x. has_number (f x)) xs ≡ true → MOST_SITES < length xs
    → Err Range ≡ entries_in keys (map f xs)
many_items f keys xs numbers many = search (all_map, length-map, nat_tests, arith)

-- the items of a lawful map
pub good_items : {X : Type 0} (f : X → List ℕ) (keys : ℕ) (xs : List X) → list_all (λ x. has_number (f x)) xs ≡ true → length xs ≤ MOST_SITES
    → list_all (λ x. is_below keys (f x)) xs ≡ true → entries_in keys (map f xs) ≡ Ok (record { keys = keys; entries = map entry_of (map f xs) })
good_items f keys xs numbers few below = search (all_map, length-map, nat_tests, arith)

-- they make a map
pub make_labels : {X : Type 0} (f : X → List ℕ) (keys : ℕ) (xs : List X) → keys ≤ MOST_KEYS → length xs ≤ MOST_SITES
    → list_all (λ x. is_below keys (f x)) xs ≡ true → AreLabels keys (map entry_of (map f xs))
make_labels f keys xs few_keys few below = search (all_map, length-map, entries_below, arith)
