-- The reader accepts every CPU list, and has its set.
use Rattle.std.proofs.Common.{◌≡◌, ℕ, ◌+◌, ◌-◌, ◌*◌, ◌/◌, ◌%◌, ◌^◌, ◌<◌, ◌≤◌, true, false, nat_lt, nat_le, ◌==◌, ◌&&◌, ◌||◌, List, [], ◌∷◌, ◌++◌, length}
use Rattle.std.proofs.Common.{length-append, append_assoc, append-nil, refl, sym, ap, ◌∙◌, Some, Ok, arith}
use Rattle.std.proofs.lemmas.Bool.Decides.{nat_tests}
use Rattle.std.proofs.lemmas.Fmt.{decimal_by_steps}
use Rattle.std.specs.Fmt.{decimal}
use Rattle.std.specs.Option.{option_map}
use Rattle.smp_mask.specs.CpuList.{item_text, lowest, highest, IsItem, AreItems, joined, names}
use Rattle.smp_mask.specs.Mask.{has}
use Rattle.smp_mask.specs.Reading.{digit, longer, after, is_live, whole, with_item, step, read_from, mask_of_text}
use Rattle.smp_mask.specs.declared.item.Item.{Item}
use Rattle.smp_mask.specs.declared.item.Item.TheVariants.{One, Run}
use Rattle.smp_mask.specs.declared.parse.Place.{Place}
use Rattle.smp_mask.specs.declared.parse.Place.TheVariants.{Start, Item as AtItem, Low, Dash, High}
use Rattle.smp_mask.specs.declared.parse.Reader.{Reader}
use Rattle.smp_mask.proofs.Reach.{reach_whole, reach_shorter}
use Rattle.smp_mask.proofs.Sets.{has_run}

pub step_other : (w : ℕ) (p q : Place) (mask b : ℕ) → (b == 44) ≡ false → after p b ≡ Some q → is_live w q ≡ true
    → step w (record { place = p; mask = mask }) b ≡ Some (record { place = q; mask = mask })
step_other w p q mask b other goes live = rw (other, goes) (rw live refl)

read_step : (w at : ℕ) (r q : Reader) (b : ℕ) (bs : List ℕ) → step w r b ≡ Some q → read_from w r at (b ∷ bs) ≡ read_from w q (at + 1) bs
unfolding read_from
read_step w at r q b bs e = rw e refl

pub digit_of : (n : ℕ) → n < 10 → digit (48 + n) ≡ Some n
digit_of n h =
    let yes_ : (nat_le 48 (48 + n) && nat_le (48 + n) 57) ≡ true = grind (arith, nat_tests) in
    let off : 48 + n - 48 ≡ n = omega arith in
    rw (yes_, off) refl

longer_of : (n : ℕ) → 10 ≤ n → longer (n / 10) (48 + n % 10) ≡ Some n
longer_of n h =
    let some : (n / 10 == 0) ≡ false = grind (arith, nat_tests) in
    let back : n / 10 * 10 + n % 10 ≡ n = omega arith in
    rw (some, digit_of (n % 10) (omega arith)) (rw back refl)

-- the places of one number, half read
record Digits (w : ℕ) (p : Place) (place : ℕ → Place) : Type 0 where
  pub starts : (b : ℕ) → after p b ≡ option_map place (digit b)
  pub goes : (n b : ℕ) → (b == 45) ≡ false → after (place n) b ≡ option_map place (longer n b)
  pub shorter : (n : ℕ) → 10 ≤ n → is_live w (place n) ≡ true → is_live w (place (n / 10)) ≡ true

low_shorter : (w n : ℕ) → 10 ≤ n → nat_lt n w ≡ true → nat_lt (n / 10) w ≡ true
low_shorter w n long h = grind (arith, nat_tests)

opening_low : (w : ℕ) (p : Place) → ((b : ℕ) → after p b ≡ option_map Low (digit b)) → Digits w p Low
opening_low w p opens = record { starts = opens; goes = λ n b other. rw other refl; shorter = low_shorter w }

high_shorter : (w low n : ℕ) → 10 ≤ n → is_live w (High low n) ≡ true → is_live w (High low (n / 10)) ≡ true
high_shorter w low n long h = grind (arith, h, reach_shorter w low n long)

opening_high : (w low : ℕ) → Digits w (Dash low) (High low)
opening_high w low = record { starts = λ b. refl; goes = λ n b other. refl; shorter = high_shorter w low }

-- a number's digits lead to the place where it is whole
reads_number : (w : ℕ) (p : Place) (place : ℕ → Place) → Digits w p place → (n : ℕ) → n < 2 ^ 64 → is_live w (place n) ≡ true → (at mask : ℕ) (rest : List ℕ)
    → read_from w (record { place = p; mask = mask }) at (decimal n ++ rest) ≡ read_from w (record { place = place n; mask = mask })
    (at + length (decimal n)) rest
reads_number w p place d =
    decimal_by_steps (λ n ds. is_live w (place n) ≡ true → (at mask : ℕ) (rest : List ℕ)
    → read_from w (record { place = p; mask = mask }) at (ds ++ rest) ≡ read_from w (record { place = place n; mask = mask }) (at + length ds) rest)
    (λ n small live at mask rest. read_step w at _ _ (48 + n) rest
    (step_other w p (place n) mask (48 + n) (grind (arith, nat_tests)) (d.starts (48 + n) ∙ ap (option_map place) (digit_of n small)) live))
    (λ n ds long before live at mask rest.
    let last = 48 + n % 10 in
    let front = before (d.shorter n long live) at mask (last ∷ rest) in
    let on : step w (record { place = place (n / 10); mask = mask }) last ≡ Some (record { place = place n; mask = mask }) =
    step_other w (place (n / 10)) (place n) mask last (grind (arith, nat_tests))
    (d.goes (n / 10) last (grind (arith, nat_tests)) ∙ ap (option_map place) (longer_of n long)) live in
    let count : at + length (ds ++ last ∷ []) ≡ at + length ds + 1 = omega (arith, length-append ds (last ∷ [])) in
    rw (append_assoc ds (last ∷ []) rest, count) (front ∙ read_step w (at + length ds) _ _ last rest on))

-- the place where an item is whole
abbrev pub place_of : Item → Place
place_of (One cpu) = Low cpu
place_of (Run low high) = High low high

whole_of : (w : ℕ) (i : Item) → IsItem w i → whole (place_of i) ≡ Some i
whole_of w (One cpu) h = refl
whole_of w (Run low high) h = let up : nat_le low high ≡ true = grind (arith, nat_tests, h.0) in rw up refl

-- where an item may begin
abbrev pub IsOpening : Place → Type 0
IsOpening p = (b : ℕ) → after p b ≡ option_map Low (digit b)

reads_item : (w : ℕ) (p : Place) → w < 2 ^ 64 → IsOpening p → (i : Item) → IsItem w i → (at mask : ℕ) (rest : List ℕ)
    → read_from w (record { place = p; mask = mask }) at (item_text i ++ rest) ≡ read_from w (record { place = place_of i; mask = mask })
    (at + length (item_text i)) rest
reads_item w p wide opens (One cpu) h at mask rest =
    reads_number w p Low (opening_low w p opens) cpu (omega (arith, h.1)) (grind (arith, nat_tests, h.1)) at mask rest
reads_item w p wide opens (Run low high) h at mask rest =
    let below : nat_lt low w ≡ true = grind (arith, nat_tests, h.0, h.1) in
    let first = reads_number w p Low (opening_low w p opens) low (omega (arith, h.0, h.1)) below at mask (45 ∷ (decimal high ++ rest)) in
    let hyphen : read_from w (record { place = Low low; mask = mask }) (at + length (decimal low)) (45 ∷ (decimal high ++ rest))
    ≡ read_from w (record { place = Dash low; mask = mask }) (at + length (decimal low) + 1) (decimal high ++ rest) =
    read_step w (at + length (decimal low)) _ _ 45 (decimal high ++ rest) (step_other w (Low low) (Dash low) mask 45 refl refl below) in
    let live : is_live w (High low high) ≡ true = grind (arith, below, reach_whole w low high h.0 h.1) in
    let second = reads_number w (Dash low) (High low) (opening_high w low) high (omega (arith, h.1)) live (at + length (decimal low) + 1) mask rest in
    let count : at + length (decimal low ++ (45 ∷ decimal high)) ≡ at + length (decimal low) + 1 + length (decimal high) =
    omega (arith, length-append (decimal low) (45 ∷ decimal high)) in
    rw (append_assoc (decimal low) (45 ∷ decimal high) rest, count) (first ∙ (hyphen ∙ second))

-- the mask with the CPUs of all items too
abbrev pub with_items : ℕ → List Item → ℕ
with_items mask [] = mask
with_items mask (i ∷ is) = with_items (with_item mask i) is

pub has_items : (w : ℕ) (items : List Item) → AreItems w items → (mask c : ℕ) → has (with_items mask items) c ≡ (has mask c || names items c)
has_items w [] h mask c = grind arith
has_items w (i ∷ is) h mask c = has_items w is h.1 (with_item mask i) c ∙ rw (has_run mask (lowest i) (highest i) c h.0.0) (grind arith)

item_ends : (w at mask : ℕ) (i : Item) → IsItem w i → read_from w (record { place = place_of i; mask = mask }) at [] ≡ Ok (with_item mask i)
unfolding read_from
item_ends w at mask (One cpu) h = refl
item_ends w at mask (Run low high) h = rw (whole_of w (Run low high) h) refl

comma_on : (w at mask : ℕ) (i : Item) (rest : List ℕ) → IsItem w i
    → read_from w (record { place = place_of i; mask = mask }) at (44 ∷ rest) ≡ read_from w (record { place = AtItem; mask = with_item mask i }) (at + 1) rest
unfolding read_from
comma_on w at mask i rest h = rw (whole_of w i h) refl

reads_items : (w : ℕ) → w < 2 ^ 64 → (is : List Item) (i : Item) (p : Place) → IsOpening p → AreItems w (i ∷ is) → (at mask : ℕ)
    → read_from w (record { place = p; mask = mask }) at (joined (i ∷ is)) ≡ Ok (with_items mask (i ∷ is))
reads_items w wide [] i p opens h at mask =
    let all = reads_item w p wide opens i h.0 at mask [] in
    rw (sym (append-nil (item_text i))) (all ∙ item_ends w _ mask i h.0)
reads_items w wide (j ∷ is) i p opens h at mask =
    reads_item w p wide opens i h.0 at mask (44 ∷ joined (j ∷ is))
    ∙ (comma_on w _ mask i (joined (j ∷ is)) h.0 ∙ reads_items w wide is j AtItem (λ b. refl) h.1 _ (with_item mask i))

-- what a CPU list reads as
pub reads_list : (w : ℕ) → w < 2 ^ 64 → (items : List Item) → AreItems w items → mask_of_text w (joined items) ≡ Ok (with_items 0 items)
unfolding read_from
reads_list w wide [] h = refl
reads_list w wide (i ∷ is) h = reads_items w wide is i Start (λ b. refl) h 0 0
