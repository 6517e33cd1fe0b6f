-- One access: its word, what it leaves in the words, and how it is seen.
use Rattle.std.specs.Int.Bits.{bit_and}
use Rattle.std.specs.Prelude.{ℕ, ◌+◌, ◌-◌, ◌%◌, ◌^◌, ◌==◌, if◌then◌else◌, Option, Some, None, List}
use Rattle.smp_words.specs.Put.{put_word}
use Rattle.smp_words.specs.Layout.{number_in, put_in}
use Rattle.smp_words.specs.declared.word.Word.{Word}
use Rattle.smp_words.specs.declared.access.Access.{Access}
use Rattle.smp_words.specs.declared.access.Access.TheVariants.{Load, Store, Swap, Exchange, Sub, And}
use Rattle.smp_words.specs.declared.seen.Act.{Act}
use Rattle.smp_words.specs.declared.seen.Act.TheVariants as act
use Rattle.smp_words.specs.declared.seen.Note.{Note}
use Rattle.smp_words.specs.declared.seen.Seen.{Seen}

abbrev pub word_of : Access → Word
word_of (Load word) = word
word_of (Store word n) = word
word_of (Swap word n) = word
word_of (Exchange word expected n) = word
word_of (Sub word) = word
word_of (And word n) = word

-- 1 less, modulo 2^64
abbrev pub one_less : ℕ → ℕ
one_less n = (n + (2 ^ 64 - 1)) % 2 ^ 64

-- what an access puts into its word, by what it finds there
abbrev pub put_by : Access → ℕ → Option ℕ
put_by (Load word) found = None
put_by (Store word n) found = Some n
put_by (Swap word n) found = Some n
put_by (Exchange word expected n) found = if found == expected then Some n else None
put_by (Sub word) found = Some (one_less found)
put_by (And word n) found = Some (bit_and found n)

-- the same words, or those with this number put in one of them
abbrev pub put_if : {A : Type 0} → (A → Word → ℕ → A) → A → Word → Option ℕ → A
put_if put words word None = words
put_if put words word (Some n) = put words word n

-- the words by name after an access
abbrev pub at_after : (Word → ℕ) → Access → Word → ℕ
at_after at access = put_if put_word at (word_of access) (put_by access (at (word_of access)))

-- the list of words after an access
abbrev pub words_after : List ℕ → Access → List ℕ
words_after words access = put_if put_in words (word_of access) (put_by access (number_in words (word_of access)))

abbrev pub act_of : Access → Act
act_of (Load word) = act.Load
act_of (Store word n) = act.Store
act_of (Swap word n) = act.Swap
act_of (Exchange word expected n) = act.Cas
act_of (Sub word) = act.Sub
act_of (And word n) = act.And

-- what is seen of the number found: a store finds nothing
abbrev pub found_by : Access → ℕ → Option ℕ
found_by (Store word n) found = None
found_by _ found = Some found

-- the step as it is seen, by what it found
abbrev pub seen_of : ℕ → Access → ℕ → Option Note → Seen
seen_of me access found n = record { cpu = me; act = act_of access; word = word_of access; found = found_by access found; put = put_by access found; note = n }
