-- The number of each word of the stop table.
use Rattle.std.specs.Prelude.{ℕ, ◌+◌, ◌*◌, nat_lt, if◌then◌else◌, Option, Some, None}
use Rattle.smp_words.specs.Put.{place_of}
use Rattle.smp_words.specs.declared.field.Field.{Field}
use Rattle.smp_words.specs.declared.size.TheConstants.{NR_CPUS, FIELDS, MOST_KEYS, MOST_SITES, GATE, SLOTS, KEYS, ENTRIES, SITES}
use Rattle.smp_words.specs.declared.word.Word.{Word}
use Rattle.smp_words.specs.declared.word.Word.TheVariants as word

-- one slot for each CPU, and in it the words in the order of their fields
abbrev pub slot_word : ℕ → Field → Option ℕ
slot_word s f = if nat_lt s NR_CPUS then Some (SLOTS + FIELDS * s + place_of f) else None

-- one word for each of this number of keys or sites
abbrev pub label_word : ℕ → ℕ → ℕ → Option ℕ
label_word base most i = if nat_lt i most then Some (base + i) else None

-- the number of a word; none where there is no such slot, key or site, and for a word of the call table
abbrev pub stop_index_of : Word → Option ℕ
stop_index_of word.Gate = Some GATE
stop_index_of (word.Slot s f) = slot_word s f
stop_index_of (word.Key k) = label_word KEYS MOST_KEYS k
stop_index_of (word.Entry i) = label_word ENTRIES MOST_SITES i
stop_index_of (word.Site i) = label_word SITES MOST_SITES i
stop_index_of _ = None
