-- A field of a form: what it says, how it is read, and what is wrong with it.
use Rattle.smp_script.proofs.Names.{◌≡◌, ℕ, zero, suc, ℤ, pos, ◌<◌, ◌≤◌, ◌^◌, ◌==◌, true, List, [], ◌∷◌, Option, Some, None, Result, Ok, Err, codes, refl, sym}
use Rattle.smp_script.proofs.Names.{inl, inr, arith, subst, decimal, signed_decimal, bytes_eq, cases_Bool, or_cases, nat_tests, has, Cause, Word, NR_CPUS}
use Rattle.smp_script.proofs.Names.{mask_of, FieldFault, field_at, number_in, minus, signed_of, active_of, member_of, Form, word, words, number, signed}
use Rattle.smp_script.proofs.Names.{cpu_list, active, online, member, items, has_word, is_one_of, IsAnswer}
use Rattle.smp_script.proofs.Faults.FieldFaults.{Judged, fine, number_judged}
use Rattle.smp_script.proofs.Faults.MaskFields.{active_judged, mask_judged}
use Rattle.smp_script.proofs.Faults.MemberFields.{member_judged}
use Rattle.smp_script.proofs.Faults.SignedFields.{signed_judged}
use Rattle.smp_script.proofs.Reader.Widths.{AreCpus}
use Rattle.smp_script.proofs.Spelled.ReadParts.{both, guarded, read32, same_word}
use Rattle.smp_script.proofs.Texts.Decimals.{number_in-ok}

-- what a field says
abbrev pub Said : Form → Type 0
Said (word w) = Unit {0}
Said (words ws) = List ℕ
Said signed = ℤ
Said (active limit) = Option ℕ
Said _ = ℕ

-- how it is read, where the words are right
abbrev pub read_form : (form : Form) → List ℕ → Result (Said form) Cause
read_form (word w) text = Ok tt
read_form (words ws) text = Ok text
read_form (number low high) text = number_in low high text
read_form signed text = signed_of text
read_form (cpu_list limit) text = mask_of limit text
read_form (active limit) text = active_of limit text
read_form (member mask) text = member_of mask text
read_form _ text = Err Word

-- a form of a line that asks for something
abbrev pub Sound : Form → Type 0
Sound (number low high) = high < 2 ^ 64
Sound (online limit) = ⊥
Sound items = ⊥
Sound _ = Unit {0}

-- such a form, of CPUs that there are
abbrev pub Known : Form → Type 0
Known (cpu_list limit) = limit ≤ NR_CPUS
Known (active limit) = limit ≤ NR_CPUS
Known (member mask) = AreCpus mask
Known (online limit) = ⊥
Known items = ⊥
Known _ = Unit {0}

ruleset judged = (number_judged, signed_judged, mask_judged, active_judged, member_judged)

-- a field is read, or what is wrong with it
pub form_judged : (fields : List (List ℕ)) (i : ℕ) (form : Form) → Known form → Judged (FieldFault fields i form) (read_form form (field_at fields i))
form_judged fields i (word w) known = fine tt refl (λ cause f. f)
form_judged fields i (words ws) known = fine (field_at fields i) refl (λ cause f. f)
form_judged fields i _ known = search (judged, arith)

-- of each of these words
abbrev pub ForEach : (List ℕ → Type 0) → List (List ℕ) → Type 0
ForEach P [] = Unit {0}
ForEach P (w ∷ ws) = P w × ForEach P ws

pub of_one : (P : List ℕ → Type 0) (ws : List (List ℕ)) (text : List ℕ) → ForEach P ws → is_one_of ws text ≡ true → P text
of_one P [] text all h = cc
of_one P (w ∷ ws) text all h = elim (or_cases (bytes_eq text w) (is_one_of ws text) h) [
  | inl here ↦ subst P (sym (same_word text w here)) all.0
  | inr more ↦ of_one P ws text all.1 more
]

-- of each text that such a field may be, and what it says
abbrev pub ForField : (form : Form) → (List ℕ → Said form → Type 0) → Type 0
ForField (word w) P = P w tt
ForField (words ws) P = ForEach (λ w. P w w) ws
ForField (number low high) P = (n : ℕ) → low ≤ n → n ≤ high → P (decimal n) n
ForField signed P = (z : ℤ) → IsAnswer z → P (signed_decimal z) z
ForField (cpu_list limit) P = (text : List ℕ) (m : ℕ) → mask_of limit text ≡ Ok m → P text m
ForField (active limit) P = P (codes "none") None × ((text : List ℕ) (m : ℕ) → mask_of limit text ≡ Ok m → P text (Some m))
ForField (member mask) P = (cpu : ℕ) → cpu < 2 ^ 32 → has mask cpu ≡ true → P (decimal cpu) cpu
ForField _ P = Unit {0}

minus_ok : (b : ℕ) (bs : List ℕ) (n : ℕ) (z : ℤ) → b ≡ 45 → bs ≡ decimal n → n ≤ 2147483648 → minus n ≡ Ok z → (b ∷ bs ≡ signed_decimal z) × IsAnswer z
minus_ok b bs zero z here is small h = cc
minus_ok b bs (suc n) z here is small h = search (arith)

signed_ok : (text : List ℕ) (z : ℤ) → signed_of text ≡ Ok z → (text ≡ signed_decimal z) × IsAnswer z
signed_ok [] z h = cc
signed_ok (b ∷ bs) z h = elim (cases_Bool (b == 45)) [
  | inl sign ↦
      let here : b ≡ 45 = grind (arith, nat_tests, sign) in
      let a = both (number_in 0 2147483648 bs) minus z (rw sign at h) in
      let n = number_in-ok 0 2147483648 bs a.value (omega arith) a.first in
      minus_ok b bs a.value z here n.0 n.2 a.then
  | inr plain ↦
      let a = both (number_in 0 2147483647 (b ∷ bs)) (λ n. Ok (pos n)) z (rw plain at h) in
      search (number_in-ok 0 2147483647 (b ∷ bs) a.value, a.first, a.then, arith)
]

member_ok : (mask : ℕ) (text : List ℕ) (c : ℕ) → member_of mask text ≡ Ok c → (text ≡ decimal c) × (c < 2 ^ 32) × (has mask c ≡ true)
member_ok mask text c h = search (both, guarded, read32, arith)

active_said : (limit : ℕ) (P : List ℕ → Option ℕ → Type 0) (text : List ℕ) (set : Option ℕ) → active_of limit text ≡ Ok set → ForField (active limit) P
    → P text set
active_said limit P text set h all = search (cases_Bool, same_word, both, arith)

-- a field that is read is one of them
pub form_said : (form : Form) (P : List ℕ → Said form → Type 0) (text : List ℕ) (x : Said form) → Sound form → has_word form text ≡ true
    → read_form form text ≡ Ok x → ForField form P → P text x
form_said (word w) P text x sound right h all = rw (same_word text w right) all
form_said (words ws) P text x sound right h all = search (of_one, arith)
form_said (number low high) P text n sound right h all =
    let is = number_in-ok low high text n sound h in
    rw is.0 (all n is.1 is.2)
form_said signed P text z sound right h all =
    let is = signed_ok text z h in
    rw is.0 (all z is.1)
form_said (active limit) P text set sound right h all = active_said limit P text set h all
form_said (member mask) P text cpu sound right h all = search (member_ok, arith)
form_said _ P text x sound right h all = search arith
