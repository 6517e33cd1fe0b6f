-- The number of each word of the call table.
use Rattle.std.specs.Prelude.{ℕ, ◌+◌, ◌*◌, ◌&&◌, nat_lt, if◌then◌else◌, Option, Some, None, List, slice_index, slice_set}
use Rattle.smp_words.specs.declared.size.TheConstants.{NR_CPUS, RECORDS, WORDS_OF_ONE, HEADS, INTRS, HANDS, QUEUED, RAN, FLAGS, FUNCS, INFOS, NEXTS}
use Rattle.smp_words.specs.declared.word.Word.{Word}
use Rattle.smp_words.specs.declared.word.Word.TheVariants.{Head, Intr, Hand, Queued, Ran, Flags, Func, Info, Next}

-- one word for each CPU
abbrev pub cpu_word : ℕ → ℕ → Option ℕ
cpu_word base cpu = if nat_lt cpu NR_CPUS then Some (base + cpu) else None

-- one word for each pair of CPUs
abbrev pub pair_word : ℕ → ℕ → ℕ → Option ℕ
pair_word base row column = if nat_lt row NR_CPUS && nat_lt column NR_CPUS then Some (base + NR_CPUS * row + column) else None

-- as many words for each record as a record has
abbrev pub record_word : ℕ → ℕ → Option ℕ
record_word base r = if nat_lt r RECORDS then Some (base + WORDS_OF_ONE * r) else None

-- the number of a word; none where there is no such CPU or record, and for a word of the stop table
abbrev pub index_of : Word → Option ℕ
index_of (Head cpu) = cpu_word HEADS cpu
index_of (Intr cpu) = cpu_word INTRS cpu
index_of (Hand cpu) = cpu_word HANDS cpu
index_of (Queued from to) = pair_word QUEUED from to
index_of (Ran by from) = pair_word RAN by from
index_of (Flags r) = record_word FLAGS r
index_of (Func r) = record_word FUNCS r
index_of (Info r) = record_word INFOS r
index_of (Next r) = record_word NEXTS r
index_of _ = None

-- the number at an index; 0 where there is none
abbrev pub number_at : List ℕ → Option ℕ → ℕ
number_at words None = 0
number_at words (Some i) = slice_index words i

-- the number in a word; 0 where there is no such word
abbrev pub number_in : List ℕ → Word → ℕ
number_in words word = number_at words (index_of word)

-- the list with n at an index, where there is one
abbrev pub put_at : List ℕ → Option ℕ → ℕ → List ℕ
put_at words None n = words
put_at words (Some i) n = slice_set words i n

-- the words after n was put in one of them
abbrev pub put_in : List ℕ → Word → ℕ → List ℕ
put_in words word n = put_at words (index_of word) n

-- the number at an index, where there is one
abbrev pub number_if : List ℕ → Option ℕ → Option ℕ
number_if words None = None
number_if words (Some i) = Some (slice_index words i)

-- the number in a word, where there is such a word
abbrev pub number_of : List ℕ → Word → Option ℕ
number_of words word = number_if words (index_of word)
