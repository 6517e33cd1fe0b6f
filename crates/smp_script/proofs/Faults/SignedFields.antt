-- Numbers that may have a minus sign, and what is wrong with their fields.
use Rattle.smp_script.proofs.Names.{◌≡◌, ℕ, zero, suc, pos, negsuc, true, false, ◌==◌, nat_lt, List, [], ◌∷◌, Ok, Err, refl, sym, ◌∙◌, inl, inr, arith}
use Rattle.smp_script.proofs.Names.{cases_Bool, nat_tests, Cause, Number, Range, is_decimal, minus, negative_of, number_in, signed_of, SignedFault, is_far}
use Rattle.smp_script.proofs.Names.{is_signed, value_of}
use Rattle.smp_script.proofs.Faults.FieldFaults.{Judged, fine, faulty}

right_signed : (text : List ℕ) → is_signed text ≡ true → is_far text ≡ false → (cause : Cause) → SignedFault text cause → ⊥
right_signed text good near Number f = let bad : true ≡ false = sym good ∙ f in cc
right_signed text good near _ f = grind arith

-- how a number is read that is not too far
number_near : (high : ℕ) (text : List ℕ) → is_decimal text ≡ true → nat_lt high (value_of text) ≡ false → number_in 0 high text ≡ Ok (value_of text)
number_near high text good near = search (nat_tests, arith)

number_far : (high : ℕ) (text : List ℕ) → is_decimal text ≡ true → nat_lt high (value_of text) ≡ true → number_in 0 high text ≡ Err Range
number_far high text good far = search (nat_tests, arith)

plain_judged : (b : ℕ) (bs : List ℕ) → (b == 45) ≡ false → Judged (SignedFault (b ∷ bs)) (signed_of (b ∷ bs))
plain_judged b bs plain = elim (cases_Bool (is_decimal (b ∷ bs))) [
  | inr bad ↦ faulty Number (rw (plain, bad) refl) (rw (plain, bad) refl)
  | inl good ↦ elim (cases_Bool (nat_lt 2147483647 (value_of (b ∷ bs)))) [
    | inl far ↦ faulty Range (rw (plain, number_far 2147483647 (b ∷ bs) good far) refl) (rw (plain, good) refl, rw (plain, far) refl)
    | inr near ↦ fine (pos (value_of (b ∷ bs))) (rw (plain, number_near 2147483647 (b ∷ bs) good near) refl)
        (right_signed (b ∷ bs) (rw (plain, good) refl) (rw (plain, near) refl))
  ]
]

-- what stands after the sign
negated : (b : ℕ) (bs : List ℕ) (n : ℕ) → (b == 45) ≡ true → is_decimal bs ≡ true → nat_lt 2147483648 (value_of bs) ≡ false → value_of bs ≡ n
    → Judged (SignedFault (b ∷ bs)) (minus n)
negated b bs zero sign good near e =
    let none : (value_of bs == 0) ≡ true = grind (arith, nat_tests, e) in
    faulty Number refl (rw (sign, good, none) refl)
negated b bs (suc n) sign good near e =
    let some : (value_of bs == 0) ≡ false = grind (arith, nat_tests, e) in
    fine (negsuc n) refl (right_signed (b ∷ bs) (rw (sign, good, some) refl) (rw (sign, near) refl))

negative_judged : (b : ℕ) (bs : List ℕ) → (b == 45) ≡ true → Judged (SignedFault (b ∷ bs)) (negative_of bs)
negative_judged b bs sign = elim (cases_Bool (is_decimal bs)) [
  | inr bad ↦ faulty Number (rw bad refl) (rw (sign, bad) refl)
  | inl good ↦ elim (cases_Bool (nat_lt 2147483648 (value_of bs))) [
    | inl far ↦
        let some : (value_of bs == 0) ≡ false = grind (arith, nat_tests, far) in
        faulty Range (rw (number_far 2147483648 bs good far) refl) (rw (sign, good, some) refl, rw (sign, far) refl)
    | inr near ↦ rw (number_near 2147483648 bs good near) (negated b bs (value_of bs) sign good near refl)
  ]
]

pub signed_judged : (text : List ℕ) → Judged (SignedFault text) (signed_of text)
signed_judged [] = faulty Number refl refl
signed_judged (b ∷ bs) = elim (cases_Bool (b == 45)) [
  | inl sign ↦ rw sign (negative_judged b bs sign)
  | inr plain ↦ plain_judged b bs plain
]
