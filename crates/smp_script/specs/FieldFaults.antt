-- What is wrong with one field of a line.
use Rattle.std.specs.Prelude.{◌≡◌, ◌≢◌, ℕ, ◌<◌, ◌≤◌, Bool, true, false, not, ◌&&◌, ◌==◌, nat_lt, if◌then◌else◌, ◌⊎◌, List, [], ◌∷◌, length, slice_index_or}
use Rattle.std.specs.Prelude.{codes}
use Rattle.std.specs.List.{list_all}
use Rattle.smp_mask.specs.CpuList.{IsMaskOf}
use Rattle.smp_mask.specs.Mask.{has}
use Rattle.smp_mask.specs.declared.error.Cause.{Cause}
use Rattle.smp_mask.specs.declared.error.Cause.TheVariants.{Number, Range, Mask}
use Rattle.smp_labels.specs.declared.words.TheConstants.{MOST_SITES}
use Rattle.smp_script.specs.Numbers.{is_decimal, value_after}
use Rattle.smp_script.specs.Labels.{has_number, is_below, items_of}
use Rattle.smp_script.specs.Shapes.{Form, number, signed, cpu_list, active, online, member, items}

-- the number that digits are
abbrev pub value_of : List ℕ → ℕ
value_of digits = value_after 0 digits

-- the field at this place
abbrev pub field_at : List (List ℕ) → ℕ → List ℕ
field_at fields i = slice_index_or fields i []

-- what is wrong with a field that has to be a number from low to high
abbrev pub NumberFault : ℕ → ℕ → List ℕ → Cause → Type 0
NumberFault low high field Number = is_decimal field ≡ false
NumberFault low high field Range = (is_decimal field ≡ true) × ((value_of field < low) ⊎ (high < value_of field))
NumberFault low high field _ = ⊥

-- the field is a list of CPUs below the limit, those of this mask, or `-`, which has none
abbrev pub IsMask : ℕ → List ℕ → ℕ → Type 0
IsMask limit field mask = ((field ≡ codes "-") × (mask ≡ 0)) ⊎ IsMaskOf limit field mask

-- what is wrong with a field that has to be a mask of CPUs below the limit
abbrev pub MaskFault : ℕ → List ℕ → Cause → Type 0
MaskFault limit field Mask = (mask : ℕ) → IsMask limit field mask → ⊥
MaskFault limit field _ = ⊥

-- what is wrong with a field that has to be such a mask, or `none`
abbrev pub ActiveFault : ℕ → List ℕ → Cause → Type 0
ActiveFault limit field Mask = (field ≢ codes "none") × ((mask : ℕ) → IsMask limit field mask → ⊥)
ActiveFault limit field _ = ⊥

-- what is wrong with a field that has to be the number of one of these CPUs
abbrev pub MemberFault : ℕ → List ℕ → Cause → Type 0
MemberFault mask field Number = is_decimal field ≡ false
MemberFault mask field Range = (is_decimal field ≡ true) × (has mask (value_of field) ≡ false)
MemberFault mask field _ = ⊥

-- the field is a number in decimal, or a minus sign and a number that is not 0
abbrev pub is_signed : List ℕ → Bool
is_signed [] = false
is_signed (b ∷ bs) = if b == 45 then is_decimal bs && not (value_of bs == 0) else is_decimal (b ∷ bs)

-- it is too far from 0 for 32 bits
abbrev pub is_far : List ℕ → Bool
is_far [] = false
is_far (b ∷ bs) = if b == 45 then nat_lt 2147483648 (value_of bs) else nat_lt 2147483647 (value_of (b ∷ bs))

-- what is wrong with a field that has to be a number of 32 bits and may have a minus sign
abbrev pub SignedFault : List ℕ → Cause → Type 0
SignedFault field Number = is_signed field ≡ false
SignedFault field Range = (is_signed field ≡ true) × (is_far field ≡ true)
SignedFault field _ = ⊥

-- what is wrong with a field that has to be the items of a labels line, of this number of keys
abbrev pub ItemsFault : ℕ → List ℕ → Cause → Type 0
ItemsFault keys field Number = list_all has_number (items_of field) ≡ false
ItemsFault keys field Range = (list_all has_number (items_of field) ≡ true)
    × ((MOST_SITES < length (items_of field)) ⊎ (list_all (is_below keys) (items_of field) ≡ false))
ItemsFault keys field _ = ⊥

-- the mask has no CPU, or one that is not below nr
abbrev pub IsOutside : ℕ → ℕ → Type 0
IsOutside nr mask = ((cpu : ℕ) → has mask cpu ≡ false) ⊎ ((cpu : ℕ) × (has mask cpu ≡ true) × (nr ≤ cpu))

-- what is wrong with a field that has to be the mask of the CPUs online, of nr in all and below the limit
abbrev pub OnlineFault : ℕ → ℕ → List ℕ → Cause → Type 0
OnlineFault limit nr field Mask = (mask : ℕ) → IsMask limit field mask → ⊥
OnlineFault limit nr field Range = (mask : ℕ) × IsMask limit field mask × IsOutside nr mask
OnlineFault limit nr field _ = ⊥

-- what is wrong with field i, which has to have this form; where it is the mask of the CPUs online, NR is field 1, and where
-- it is the items, KEYS is
abbrev pub FieldFault : List (List ℕ) → ℕ → Form → Cause → Type 0
FieldFault fields i (number low high) cause = NumberFault low high (field_at fields i) cause
FieldFault fields i signed cause = SignedFault (field_at fields i) cause
FieldFault fields i (cpu_list limit) cause = MaskFault limit (field_at fields i) cause
FieldFault fields i (active limit) cause = ActiveFault limit (field_at fields i) cause
FieldFault fields i (member mask) cause = MemberFault mask (field_at fields i) cause
FieldFault fields i (online limit) cause = OnlineFault limit (value_of (field_at fields 1)) (field_at fields i) cause
FieldFault fields i items cause = ItemsFault (value_of (field_at fields 1)) (field_at fields i) cause
FieldFault fields i _ cause = ⊥
