-- The number of a CPU that is online, and what is wrong with its field.
use Rattle.smp_script.proofs.Names.{◌≡◌, ℕ, true, false, List, Err, refl, sym, ◌∙◌, inl, inr, arith, cases_Bool, has, Cause, Number, Range, MemberFault}
use Rattle.smp_script.proofs.Names.{NumberFault, value_of, is_decimal, number_in, member_of}
use Rattle.smp_script.proofs.Faults.FieldFaults.{Judged, fine, faulty, is_read, is_wrong, number_read}
use Rattle.smp_script.proofs.Reader.Widths.{AreCpus}

right_member : (mask : ℕ) (text : List ℕ) → is_decimal text ≡ true → has mask (value_of text) ≡ true → (cause : Cause) → MemberFault mask text cause → ⊥
right_member mask text good is Number f = let bad : true ≡ false = sym good ∙ f in cc
right_member mask text good is _ f = grind arith

wrong_member : (mask : ℕ) (text : List ℕ) → AreCpus mask → (cause : Cause) → number_in 0 4294967295 text ≡ Err cause → NumberFault 0 4294967295 text cause
    → Judged (MemberFault mask text) (member_of mask text)
wrong_member mask text cpus Number e f = faulty Number (rw e refl) f
wrong_member mask text cpus Range e f = faulty Range (rw e refl) (f.0, elim f.1 [ inl under ↦ absurd (omega arith) | inr over ↦ search (cases_Bool, arith) ])
wrong_member mask text cpus _ e f = absurd f

-- a CPU is read, or what is wrong with its field
pub member_judged : (mask : ℕ) (text : List ℕ) → AreCpus mask → Judged (MemberFault mask text) (member_of mask text)
member_judged mask text cpus = elim (number_read 0 4294967295 text) [
  | is_wrong cause e f ↦ wrong_member mask text cpus cause e f
  | is_read good e right ↦ elim (cases_Bool (has mask (value_of text))) [
    | inl is ↦ fine (value_of text) (rw (e, is) refl) (right_member mask text good is)
    | inr none ↦ faulty Range (rw (e, none) refl) (good, none)
  ]
]
