-- The labels line of a script: how many keys there are, and the items.
use Rattle.std.specs.Prelude.{ℕ, Bool, true, false, ◌&&◌, nat_lt, if◌then◌else◌, List, [], ◌∷◌, length, map, Option, Some, None, is_some, Result, Ok, Err}
use Rattle.std.specs.Prelude.{codes}
use Rattle.std.specs.List.{list_all}
use Rattle.std.specs.Str.{bytes_eq}
use Rattle.smp_mask.specs.declared.error.Cause.{Cause}
use Rattle.smp_mask.specs.declared.error.Cause.TheVariants.{Word, Number, Range}
use Rattle.smp_labels.specs.Labels.{Labels}
use Rattle.smp_labels.specs.declared.entries.Entry.{Entry}
use Rattle.smp_labels.specs.declared.words.TheConstants.{MOST_KEYS, MOST_SITES}
use Rattle.smp_script.specs.Lines.{parts_of}
use Rattle.smp_script.specs.Numbers.{is_decimal, number_in, value_after}
use Rattle.smp_words.specs.FirstFault.{◌>>=◌}
use Rattle.smp_script.specs.Fields.{word32}
use Rattle.smp_script.specs.Commands.{are_whole}

-- the text of a key, and a branch
abbrev pub Item : Type 0
Item = List ℕ × Bool

-- the text of an item's key and its branch; none where it has not its one colon, or another branch
abbrev pub item_in : List (List ℕ) → Option Item
item_in (key ∷ branch ∷ []) =
    if bytes_eq branch (codes "0") then Some (key, false) else (if bytes_eq branch (codes "1") then Some (key, true) else None)
item_in _ = None

abbrev pub item_of : List ℕ → Option Item
item_of text = item_in (parts_of 58 text)

abbrev pub is_item : List ℕ → Bool
is_item text = is_some (item_of text)

-- the item's key is a number
abbrev pub is_numbered : Option Item → Bool
is_numbered None = false
is_numbered (Some item) = is_decimal item.0

abbrev pub has_number : List ℕ → Bool
has_number text = is_numbered (item_of text)

-- and below these keys
abbrev pub is_among : ℕ → Option Item → Bool
is_among keys None = false
is_among keys (Some item) = is_decimal item.0 && nat_lt (value_after 0 item.0) keys

abbrev pub is_below : ℕ → List ℕ → Bool
is_below keys text = is_among keys (item_of text)

abbrev pub or_zero : Result ℕ Cause → ℕ
or_zero (Ok n) = n
or_zero (Err cause) = 0

-- the entry of an item; its key is 0 where it is no number of 32 bits
abbrev pub entry_in : Option Item → Entry
entry_in None = record { key = 0; branch = false }
entry_in (Some item) = record { key = or_zero (word32 item.0); branch = item.1 }

abbrev pub entry_of : List ℕ → Entry
entry_of text = entry_in (item_of text)

-- the items of a field: `-` has none
abbrev pub items_of : List ℕ → List (List ℕ)
items_of text = if bytes_eq text (codes "-") then [] else parts_of 44 text

-- the labels of this number of keys and these items, of which each is one
abbrev pub entries_in : ℕ → List (List ℕ) → Result Labels Cause
entries_in keys items =
    if list_all has_number items then
    (if nat_lt MOST_SITES (length items) then Err Range
    else (if list_all (is_below keys) items then Ok (record { keys = keys; entries = map entry_of items }) else Err Range))
    else Err Number

-- KEYS and the items: a wrong item is seen first
unfoldable pub labels_in : List ℕ → List (List ℕ) → Result Labels Cause
labels_in keys items =
    if list_all is_item items then (number_in 0 MOST_KEYS keys >>= λ n. entries_in n items) else Err Word

-- `labels KEYS ITEMS`, where the first word is right
abbrev pub labels_of : List (List ℕ) → Result Labels Cause
labels_of (word ∷ keys ∷ items ∷ []) = labels_in keys (items_of items)
labels_of _ = Err Word

-- the same where no field is empty
abbrev pub whole_labels : List (List ℕ) → Result Labels Cause
whole_labels fields = if are_whole fields then labels_of fields else Err Word

-- a line is one of labels where its first word says so
abbrev pub is_labels : List (List ℕ) → Bool
is_labels [] = false
is_labels (word ∷ rest) = bytes_eq word (codes "labels")
