-- Decimal numbers, as they are written.
use Rattle.smp_script.proofs.Names.{◌≡◌, ℕ, ◌<◌, ◌≤◌, ◌^◌, true, false, List, [], ◌∷◌, length, get_or, Ok, refl, sym, ap, ◌∙◌, arith, decimal, list_all}
use Rattle.smp_script.proofs.Names.{cases_lt, cases_Bool, nat_tests, is_digit, is_decimal, value_after, number_in, lacks, is_field}
use Rattle.std.proofs.lemmas.Fmt.{decimal_digit, decimal_nonempty, digits_decimal, digits_value-decimal, first_decimal, decimal-digits_value}
use Rattle.std.proofs.lemmas.Str.Parse.{IsDigitsTest, IsNumeralModel, numerals_by_fold}

abbrev AreDigits : List ℕ → Type 0
AreDigits ds = list_all is_digit ds ≡ true

tells : IsDigitsTest AreDigits
tells = search (nat_tests, arith)

own : IsNumeralModel AreDigits (value_after 0)
own = numerals_by_fold AreDigits tells value_after (record { empty = λ n. refl; more = λ n c cs r. refl })

decimal_from : (ds : List ℕ) → AreDigits ds → 0 < length ds → (get_or ds 0 0 ≡ 48 → length ds ≡ 1) → is_decimal ds ≡ true
decimal_from [] h long first = absurd (omega arith)
decimal_from (d ∷ ds) h long first = search (cases_Bool, nat_tests, arith)

decimal_parts : (ds : List ℕ) → is_decimal ds ≡ true → AreDigits ds × (0 < length ds) × (get_or ds 0 0 ≡ 48 → length ds ≡ 1)
decimal_parts [] h = cc
decimal_parts (d ∷ ds) h = (grind (arith, h), omega arith, λ e. grind (arith, nat_tests, h, e))

-- what `decimal` writes is a decimal number
pub is_decimal-decimal : (n : ℕ) → n < 2 ^ 64 → is_decimal (decimal n) ≡ true
is_decimal-decimal n small = search (decimal_from, digits_decimal, own, decimal_nonempty, cases_lt, first_decimal, decimal_digit, arith)

pub value_of_decimal : (n : ℕ) → n < 2 ^ 64 → value_after 0 (decimal n) ≡ n
value_of_decimal n small = digits_value-decimal own n small

-- a number that is written is read
pub number_in-decimal : (low high n : ℕ) → low ≤ n → n ≤ high → n < 2 ^ 64 → number_in low high (decimal n) ≡ Ok n
number_in-decimal low high n above below small = search (digits_value-decimal, own, nat_tests, is_decimal-decimal, arith)

lacks_digits : (c : ℕ) (ds : List ℕ) → is_digit c ≡ false → AreDigits ds → lacks c ds ≡ true
lacks_digits c [] h a = refl
lacks_digits c (d ∷ ds) h a = grind (arith, nat_tests, lacks_digits c ds)

-- it has no byte that is no digit
pub decimal_lacks : (c n : ℕ) → is_digit c ≡ false → n < 2 ^ 64 → lacks c (decimal n) ≡ true
decimal_lacks c n h small = lacks_digits c (decimal n) h (digits_decimal own n small)

-- it is a field
pub is_field-decimal : (n : ℕ) → n < 2 ^ 64 → is_field (decimal n) ≡ true
is_field-decimal n small = search (digits_decimal, own, nat_tests, decimal_nonempty, lacks_digits, arith)

within : (low high : ℕ) (text : List ℕ) (n : ℕ) → number_in low high text ≡ Ok n → (is_decimal text ≡ true) × (value_after 0 text ≡ n) × (low ≤ n) × (n ≤ high)
within low high text n h = search (cases_Bool, nat_tests, arith)

-- a number that is read was written so
pub number_in-ok : (low high : ℕ) (text : List ℕ) (n : ℕ) → high < 2 ^ 64 → number_in low high text ≡ Ok n → (text ≡ decimal n) × (low ≤ n) × (n ≤ high)
number_in-ok low high text n small h =
    let w = within low high text n h in
    let p = decimal_parts text w.0 in
    let back : decimal (value_after 0 text) ≡ text = decimal-digits_value own text p.0 p.1 p.2 (omega (arith, w.1, w.3)) in
    (sym back ∙ ap decimal w.1, w.2, w.3)
