-- The word of an entry.
use Rattle.std.specs.Prelude.{ℕ, ◌+◌, ◌-◌, ◌*◌, ◌/◌, ◌%◌, ◌<◌, ◌==◌, if◌then◌else◌, Option, Some, None, IfSome}
use Rattle.smp_labels.specs.declared.entries.Entry.{Entry}
use Rattle.smp_labels.specs.declared.words.TheConstants.{MOST_KEYS}

-- the word of an entry
abbrev pub entry_word : Entry → ℕ
entry_word e = 2 * e.key + (if e.branch then 1 else 0) + 1

-- the entry of a word: 0 is of none
abbrev pub entry_at : ℕ → Option Entry
entry_at word = if word == 0 then None else Some (record { key = (word - 1) / 2; branch = (word - 1) % 2 == 1 })

-- the word is 0, or of an entry whose key a table can have
abbrev pub IsEntryWord : ℕ → Type 0
IsEntryWord word = IfSome (entry_at word) (λ e. e.key < MOST_KEYS)
