-- Masks, and what is wrong with their fields.
use Rattle.smp_script.proofs.Names.{◌≡◌, ◌≢◌, ℕ, ◌≤◌, Some, None, true, false, List, Result, Ok, Err, codes, refl, sym, ap, ◌∙◌, inl, inr, arith, bytes_eq}
use Rattle.smp_script.proofs.Names.{cases_Bool, IsMaskOf, mask_of_text, Cause, Mask, SmpError, NR_CPUS, accepted, refused, mask_of, stays_below, ActiveFault}
use Rattle.smp_script.proofs.Names.{IsMask, MaskFault, active_of}
use Rattle.smp_script.proofs.Faults.FieldFaults.{Judged, fine, faulty}
use Rattle.smp_script.proofs.Spelled.ReadParts.{same_word}
use Rattle.smp_script.proofs.Reader.Widths.{narrower, too_wide, wider}

pub no_word : (text : List ℕ) → bytes_eq text (codes "-") ≡ false → text ≡ codes "-" → ⊥
no_word text h e = let bad : true ≡ false = sym (ap (λ t. bytes_eq t (codes "-")) e) ∙ h in cc

-- the list that a field is, which is not `-`, or why it is none
pub data ListRead (limit : ℕ) (text : List ℕ) : Type 0 where
  a_list : (m : ℕ) → mask_of limit text ≡ Ok m → IsMaskOf limit text m → ListRead limit text
  no_list : mask_of limit text ≡ Err Mask → ((m : ℕ) → IsMask limit text m → ⊥) → ListRead limit text

read_list : (limit : ℕ) (text : List ℕ) → limit ≤ NR_CPUS → bytes_eq text (codes "-") ≡ false → (r : Result ℕ SmpError) → mask_of_text NR_CPUS text ≡ r
    → ListRead limit text
read_list limit text few h (Err e) read =
    let bad = refused NR_CPUS (omega arith) (omega arith) text e read in
    no_list (rw (h, read) refl) (λ m f. elim f [
      | inl dash ↦ no_word text h dash.0
      | inr is ↦ let wide = wider limit text m few is in bad.2.unlisted wide.items wide.is_list
    ])
read_list limit text few h (Ok m) read =
    let wide = accepted NR_CPUS (omega arith) text m read in
    elim (cases_Bool (stays_below limit m)) [
      | inl within ↦ a_list m (rw (h, read, within) refl) (narrower limit text m few within wide)
      | inr far ↦ no_list (rw (h, read, far) refl) (λ n f. elim f [ inl dash ↦ no_word text h dash.0 | inr is ↦ too_wide limit text m n few far wide is ])
    ]

pub list_read : (limit : ℕ) (text : List ℕ) → limit ≤ NR_CPUS → bytes_eq text (codes "-") ≡ false → ListRead limit text
list_read limit text few h = read_list limit text few h (mask_of_text NR_CPUS text) refl

no_fault : (limit : ℕ) (text : List ℕ) (m : ℕ) → IsMask limit text m → (cause : Cause) → MaskFault limit text cause → ⊥
no_fault limit text m is Mask f = f m is
no_fault limit text m is _ f = f

pub mask_judged : (limit : ℕ) (text : List ℕ) → limit ≤ NR_CPUS → Judged (MaskFault limit text) (mask_of limit text)
mask_judged limit text few = elim (cases_Bool (bytes_eq text (codes "-"))) [
  | inl dash ↦ fine 0 (rw dash refl) (no_fault limit text 0 (inl (same_word text (codes "-") dash, refl)))
  | inr other ↦ elim (list_read limit text few other) [
    | a_list m read is ↦ fine m read (no_fault limit text m (inr is))
    | no_list read none ↦ faulty Mask read none
  ]
]

-- a mask has only the fault that it is none
mask_only : (limit : ℕ) (text : List ℕ) (cause : Cause) → MaskFault limit text cause → (cause ≡ Mask) × ((m : ℕ) → IsMask limit text m → ⊥)
mask_only limit text Mask f = (refl, f)
mask_only limit text _ f = absurd f

right_active : (limit : ℕ) (text : List ℕ) → ((cause : Cause) → MaskFault limit text cause → ⊥) → (cause : Cause) → ActiveFault limit text cause → ⊥
right_active limit text right Mask f = right Mask f.1
right_active limit text right _ f = f

none_active : (limit : ℕ) (text : List ℕ) → text ≡ codes "none" → (cause : Cause) → ActiveFault limit text cause → ⊥
none_active limit text is Mask f = f.0 is
none_active limit text is _ f = f

not_none : (text : List ℕ) → bytes_eq text (codes "none") ≡ false → text ≢ codes "none"
not_none text h e = let bad : true ≡ false = sym (ap (λ t. bytes_eq t (codes "none")) e) ∙ h in cc

pub active_judged : (limit : ℕ) (text : List ℕ) → limit ≤ NR_CPUS → Judged (ActiveFault limit text) (active_of limit text)
active_judged limit text few = elim (cases_Bool (bytes_eq text (codes "none"))) [
  | inl none ↦ fine None (rw none refl) (none_active limit text (same_word text (codes "none") none))
  | inr other ↦ elim (mask_judged limit text few) [
    | fine m read right ↦ fine (Some m) (rw (other, read) refl) (right_active limit text right)
    | faulty cause read wrong ↦
        let only = mask_only limit text cause wrong in
        faulty Mask (rw (other, read, only.0) refl) (not_none text other, only.1)
  ]
]
