-- Reading a CPU list byte by byte, as a function: for what computes with the mask of a text. That it reads the lists of
-- `CpuList` is in the contract of `CpuMask.parse`.
use Rattle.std.specs.Prelude.{ℕ, zero, suc, ◌+◌, ◌-◌, ◌*◌, ◌^◌, Bool, true, nat_lt, nat_le, ◌==◌, ◌&&◌, ◌||◌, cond, List, [], ◌∷◌, Option, Some, None}
use Rattle.std.specs.Prelude.{option_map, option_and_then, Result, Ok, Err}
use Rattle.std.specs.Int.Bits.{bit_or}
use Rattle.smp_mask.specs.CpuList.{lowest, highest}
use Rattle.smp_mask.specs.declared.error.SmpError.{SmpError}
use Rattle.smp_mask.specs.declared.error.SmpError.TheVariants.{BadMask}
use Rattle.smp_mask.specs.declared.item.Item.{Item}
use Rattle.smp_mask.specs.declared.item.Item.TheVariants.{One, Run}
use Rattle.smp_mask.specs.declared.parse.Place.{Place}
use Rattle.smp_mask.specs.declared.parse.Place.TheVariants.{Start, Item as AtItem, Low, Dash, High}
use Rattle.smp_mask.specs.declared.parse.Reader.{Reader}

-- the digit that a byte is
abbrev pub digit : ℕ → Option ℕ
digit byte = cond (nat_le 48 byte && nat_le byte 57) (Some (byte - 48)) None

-- the number with one digit more, of which a lone zero has none
abbrev pub longer : ℕ → ℕ → Option ℕ
longer number byte = cond (number == 0) None (option_map (λ d. number * 10 + d) (digit byte))

-- the place after a byte that is no comma
abbrev pub after : Place → ℕ → Option Place
after Start byte = option_map Low (digit byte)
after AtItem byte = option_map Low (digit byte)
after (Low low) byte = cond (byte == 45) (Some (Dash low)) (option_map Low (longer low byte))
after (Dash low) byte = option_map (High low) (digit byte)
after (High low high) byte = option_map (High low) (longer high byte)

-- whether more digits, or none, take the numbers from `least` up to below `past` to one that is not below `low`, and still below the width
unfoldable pub reaches_within : ℕ → ℕ → ℕ → ℕ → ℕ → Bool
reaches_within zero width low least past = nat_lt low past && nat_lt least width
reaches_within (suc steps) width low least past =
    cond (nat_lt low past || least == 0) (nat_lt low past && nat_lt least width) (reaches_within steps width low (least * 10) (past * 10))

-- whether a number from `low` on and below the width begins with the digits of `high`
abbrev pub reaches : ℕ → ℕ → ℕ → Bool
reaches width low high = reaches_within low width low high (high + 1)

-- whether some CPU list goes on from this place
abbrev pub is_live : ℕ → Place → Bool
is_live width Start = true
is_live width AtItem = true
is_live width (Low low) = nat_lt low width
is_live width (Dash low) = nat_lt low width
is_live width (High low high) = nat_lt low width && reaches width low high

-- the place after a byte that is no comma, where a CPU list goes on from there
abbrev pub live_after : ℕ → Place → ℕ → Option Place
live_after width place byte = option_and_then (λ p. cond (is_live width p) (Some p) None) (after place byte)

-- the item that is whole here
abbrev pub whole : Place → Option Item
whole Start = None
whole AtItem = None
whole (Low low) = Some (One low)
whole (Dash low) = None
whole (High low high) = cond (nat_le low high) (Some (Run low high)) None

-- the mask with the CPUs of an item too
abbrev pub with_item : ℕ → Item → ℕ
with_item mask i = bit_or mask (2 ^ suc (highest i) - 2 ^ lowest i)

-- the reader after one byte
abbrev pub step : ℕ → Reader → ℕ → Option Reader
step width reader byte = cond (byte == 44)
    (option_map (λ i. record { place = AtItem; mask = with_item reader.mask i }) (whole reader.place))
    (option_map (λ p. record { place = p; mask = reader.mask }) (live_after width reader.place byte))

-- the mask at the end of the text
abbrev pub finished : Place → ℕ → Option ℕ
finished Start mask = Some mask
finished AtItem mask = None
finished (Low low) mask = Some (with_item mask (One low))
finished (Dash low) mask = None
finished (High low high) mask = option_map (with_item mask) (whole (High low high))

-- what comes of an answer, which is refused at that position where it is none
abbrev pub or_refused : {A : Type 0} → ℕ → (A → Result ℕ SmpError) → Option A → Result ℕ SmpError
or_refused at go None = Err (BadMask at)
or_refused at go (Some a) = go a

-- the rest of a text, of which `at` bytes are read
unfoldable pub read_from : ℕ → Reader → ℕ → List ℕ → Result ℕ SmpError
read_from width reader at [] = or_refused at (λ mask. Ok mask) (finished reader.place reader.mask)
read_from width reader at (b ∷ bs) = or_refused at (λ r. read_from width r (at + 1) bs) (step width reader b)

-- the mask of a text, or the error with the position where it goes wrong
abbrev pub mask_of_text : ℕ → List ℕ → Result ℕ SmpError
mask_of_text width text = read_from width (record { place = Start; mask = 0 }) 0 text

-- an answer with a bare position, as one with the error of that position
abbrev pub answered : Result ℕ ℕ → Result ℕ SmpError
answered (Ok mask) = Ok mask
answered (Err at) = Err (BadMask at)
