-- The words of a stop table, and what an access does to them.
use Rattle.std.specs.Prelude.{ℕ, ◌+◌, ◌*◌, nat_lt, if◌then◌else◌, Option, Some, None, List, slice_index, slice_set}
use Rattle.smp_words.specs.Layout.{number_at, number_if, put_at}
use Rattle.smp_words.specs.{Put.place_of, Access.put_by, Access.put_if, declared.size.TheConstants.NR_CPUS, declared.size.TheConstants.FIELDS}
use Rattle.smp_stop_steps.specs.Names.{MOST_KEYS, MOST_SITES, word_of, Access, Field, Word, Gate, Slot, Key, Entry, Site}

-- the gate, the words of all slots, and those of the labels
pub record StopWords : Type 0 where
  pub gate : ℕ
  pub slots : List ℕ
  pub keys : List ℕ
  pub entries : List ℕ
  pub sites : List ℕ

-- the place of a field among the words of all slots; none where there is no such slot
abbrev pub slot_cell : ℕ → Field → Option ℕ
slot_cell s f = if nat_lt s NR_CPUS then Some (FIELDS * s + place_of f) else None

-- the number in a word; 0 where there is no such word
abbrev pub stop_number : StopWords → Word → ℕ
stop_number t Gate = t.gate
stop_number t (Slot s f) = number_at t.slots (slot_cell s f)
stop_number t (Key k) = slice_index t.keys k
stop_number t (Entry i) = slice_index t.entries i
stop_number t (Site i) = slice_index t.sites i
stop_number t _ = 0

-- the number at an index of a list of this many, where there is one
abbrev pub number_below : ℕ → List ℕ → ℕ → Option ℕ
number_below n words i = if nat_lt i n then Some (slice_index words i) else None

-- the number in a word, where there is such a word
abbrev pub stop_number_of : StopWords → Word → Option ℕ
stop_number_of t Gate = Some t.gate
stop_number_of t (Slot s f) = number_if t.slots (slot_cell s f)
stop_number_of t (Key k) = number_below MOST_KEYS t.keys k
stop_number_of t (Entry i) = number_below MOST_SITES t.entries i
stop_number_of t (Site i) = number_below MOST_SITES t.sites i
stop_number_of t _ = None

-- the words after n was put in one of them
abbrev pub stop_put : StopWords → Word → ℕ → StopWords
stop_put t Gate n = record t { gate = n }
stop_put t (Slot s f) n = record t { slots = put_at t.slots (slot_cell s f) n }
stop_put t (Key k) n = record t { keys = slice_set t.keys k n }
stop_put t (Entry i) n = record t { entries = slice_set t.entries i n }
stop_put t (Site i) n = record t { sites = slice_set t.sites i n }
stop_put t _ n = t

-- the words after an access
abbrev pub stop_words_after : StopWords → Access → StopWords
stop_words_after t access = put_if stop_put t (word_of access) (put_by access (stop_number t (word_of access)))
