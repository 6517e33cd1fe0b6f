-- The mask of the CPUs online, and what is wrong with its field.
use Rattle.smp_script.proofs.Names.{◌≡◌, ℕ, ◌≤◌, true, false, ◌==◌, nat_lt, List, [], ◌∷◌, length, drop, Result, Ok, Err, codes, refl, sym, ◌∙◌, inl, inr}
use Rattle.smp_script.proofs.Names.{arith, subst, bytes_eq, cases_Bool, cases_lt, and_parts, nat_tests, IsMaskOf, has, members, Cause, Mask, Range, NR_CPUS}
use Rattle.smp_script.proofs.Names.{item_member, none_below, has_none, mask_of, are_whole, are_online, cpus_of, table_of, whole_cpus, online, cpus, IsOutside}
use Rattle.smp_script.proofs.Names.{OnlineFault, value_of}
use Rattle.smp_script.proofs.Faults.FieldFaults.{Tells, none_yet, passes, reads_number}
use Rattle.smp_script.proofs.Faults.LineShapes.{IsQuiet, TellsLine, shapeless, shaped, no_whole, passes_word, skips_word}
use Rattle.smp_script.proofs.Reader.Widths.{AreCpus, mask_below, one_above, one_mask, some_fails, wider}
use Rattle.smp_script.proofs.Faults.MaskFields.{a_list, no_list, list_read, no_word}
use Rattle.smp_script.proofs.Spelled.ReadParts.{same_word}

-- no member
no_members : (m : ℕ) → AreCpus m → length (members m) ≡ 0 → (cpu : ℕ) → has m cpu ≡ false
no_members m below none cpu = elim (cases_Bool (has m cpu)) [
  | inr off ↦ off
  | inl on ↦
      let some = some_fails (λ c. nat_lt c 0) (members m) (one_above 0 m NR_CPUS cpu (below cpu on) on (omega arith)) in
      absurd (omega (arith, some.1, none))
]

is_outside : (nr m : ℕ) → AreCpus m → are_online nr m ≡ false → IsOutside nr m
is_outside nr m below h = search (cases_lt, no_members, nat_tests, some_fails, item_member, arith)

not_outside : (nr m : ℕ) → AreCpus m → are_online nr m ≡ true → IsOutside nr m → ⊥
not_outside nr m below h (inl none) = search (none_below, arith)
not_outside nr m below h (inr far) = search (and_parts, one_above, arith)

-- the CPUs of a list are CPUs
are_cpus : (limit : ℕ) (text : List ℕ) (m : ℕ) → limit ≤ NR_CPUS → IsMaskOf limit text m → AreCpus m
are_cpus limit text m few is = mask_below NR_CPUS text m (wider limit text m few is)

-- the field's mask, or what is wrong with it
data MaskRead (limit nr : ℕ) (text : List ℕ) : Type 0 where
  is_read : (m : ℕ) → mask_of limit text ≡ Ok m → are_online nr m ≡ true → ((cause : Cause) → OnlineFault limit nr text cause → ⊥) → MaskRead limit nr text
  no_mask : mask_of limit text ≡ Err Mask → OnlineFault limit nr text Mask → MaskRead limit nr text
  outside : (m : ℕ) → mask_of limit text ≡ Ok m → are_online nr m ≡ false → OnlineFault limit nr text Range → MaskRead limit nr text

right_mask : (limit nr m : ℕ) (text : List ℕ) → limit ≤ NR_CPUS → bytes_eq text (codes "-") ≡ false → IsMaskOf limit text m → are_online nr m ≡ true
    → (cause : Cause) → OnlineFault limit nr text cause → ⊥
right_mask limit nr m text few h is on Mask f = f m (inr is)
right_mask limit nr m text few h is on Range (other, inl dash, out) = no_word text h dash.0
right_mask limit nr m text few h is on Range (other, inr same, out) =
    not_outside nr m (are_cpus limit text m few is) on (subst (IsOutside nr) (one_mask limit text other m same is) out)
right_mask limit nr m text few h is on _ f = f

online_read : (limit nr : ℕ) (text : List ℕ) → limit ≤ NR_CPUS → bytes_eq text (codes "-") ≡ false → MaskRead limit nr text
online_read limit nr text few h = elim (list_read limit text few h) [
  | no_list read none ↦ no_mask read none
  | a_list m read is ↦ elim (cases_Bool (are_online nr m)) [
    | inl on ↦ is_read m read on (right_mask limit nr m text few h is on)
    | inr off ↦ outside m read off (m, inr is, is_outside nr m (are_cpus limit text m few is) off)
  ]
]

mask_read : (limit nr : ℕ) (text : List ℕ) → limit ≤ NR_CPUS → MaskRead limit nr text
mask_read limit nr text few = elim (cases_Bool (bytes_eq text (codes "-"))) [
  | inr other ↦ online_read limit nr text few other
  | inl dash ↦
      let empty : members 0 ≡ [] = none_below 0 NR_CPUS (λ c _. has_none c) in
      outside 0 (rw dash refl) (rw empty refl) (0, inl (same_word text (codes "-") dash, refl), inl has_none)
]

table_told : (limit : ℕ) (nr mask : List ℕ) → limit ≤ NR_CPUS
    → Tells (cpus limit) (codes "cpus" ∷ nr ∷ mask ∷ []) (λ t. IsQuiet (codes "cpus" ∷ nr ∷ mask ∷ [])) (table_of limit nr mask)
table_told limit nr mask few =
    let fields = codes "cpus" ∷ nr ∷ mask ∷ [] in
    reads_number (cpus limit) fields (λ t. IsQuiet fields) 1 1 limit _ refl (passes_word (cpus limit) fields 0 _ refl (none_yet (cpus limit) fields))
    (λ two. elim (mask_read limit (value_of nr) mask few) [
      | is_read m read on right ↦ rw (read, on) (passes (cpus limit) fields 2 (online limit) refl right two, (refl, refl))
      | no_mask read wrong ↦ rw read (record { place = 2; form = online limit; wants = refl; wrong = wrong; before = two })
      | outside m read off wrong ↦ rw (read, off) (record { place = 2; form = online limit; wants = refl; wrong = wrong; before = two })
    ])

cpus_shapes : (limit : ℕ) (fields : List (List ℕ)) → limit ≤ NR_CPUS → are_whole fields ≡ true
    → TellsLine (cpus limit ∷ []) fields (λ t. IsQuiet fields) (cpus_of limit fields)
cpus_shapes limit (a ∷ nr ∷ mask ∷ []) few whole = elim (cases_Bool (bytes_eq a (codes "cpus"))) [
  | inr no_ ↦ shapeless (skips_word a (nr ∷ mask ∷ []) (codes "cpus") (drop 1 (cpus limit)) [] no_) (rw no_ refl)
  | inl yes_ ↦
      let some_nr : (length nr == 0) ≡ false = grind (arith, whole) in
      let some_mask : (length mask == 0) ≡ false = grind (arith, whole) in
      rw (same_word a (codes "cpus") yes_) (shaped (cpus limit) (table_of limit nr mask) (rw (some_mask, some_nr) refl) refl (table_told limit nr mask few))
]
cpus_shapes limit _ few whole = shapeless refl refl

-- what reading the second line tells
pub cpus_told : (limit : ℕ) (fields : List (List ℕ)) → limit ≤ NR_CPUS → TellsLine (cpus limit ∷ []) fields (λ t. IsQuiet fields) (whole_cpus limit fields)
cpus_told limit fields few = elim (cases_Bool (are_whole fields)) [
  | inl whole ↦ rw whole (cpus_shapes limit fields few whole)
  | inr empty ↦ shapeless (rw (no_whole fields (cpus limit) refl empty) refl) (rw empty refl)
]

-- the CPUs of a mask that was read are CPUs
pub mask_cpus : (limit : ℕ) (text : List ℕ) (m : ℕ) → limit ≤ NR_CPUS → mask_of limit text ≡ Ok m → AreCpus m
mask_cpus limit text m few h = elim (cases_Bool (bytes_eq text (codes "-"))) [
  | inl dash ↦ let same : 0 ≡ m = let e : ◌≡◌ {A = Result ℕ Cause} (Ok 0) (Ok m) = rw dash at h in cc in
      subst AreCpus same (λ cpu on. let bad : false ≡ true = sym (has_none cpu) ∙ on in cc)
  | inr other ↦ elim (list_read limit text few other) [
    | a_list n read is ↦
        let same : n ≡ m = let e : ◌≡◌ {A = Result ℕ Cause} (Ok n) (Ok m) = sym read ∙ h in cc in
        subst AreCpus same (are_cpus limit text n few is)
    | no_list read none ↦ let e : ◌≡◌ {A = Result ℕ Cause} (Err Mask) (Ok m) = sym read ∙ h in cc
  ]
]
