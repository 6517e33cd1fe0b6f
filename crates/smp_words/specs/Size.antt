-- How many CPUs, records and words there are, and to whom a record belongs. No other file has these numbers.
use Rattle.std.specs.Prelude.{ℕ, ◌+◌, ◌-◌, ◌*◌, ◌/◌, ◌%◌, nat_lt, if◌then◌else◌}
use Rattle.smp_words.specs.declared.size.TheConstants.{NR_CPUS, FIRST_OF_ONE, MORE_OF_ONE, FIRST_RECORDS, RECORDS_OF_ONE, RECORDS, WORDS}

-- the CPUs are the numbers below this
abbrev pub cpus : ℕ
cpus = NR_CPUS

-- a source's local numbers are those below this
abbrev pub records_of_one : ℕ
records_of_one = RECORDS_OF_ONE

-- the records are the numbers below this
abbrev pub records : ℕ
records = RECORDS

-- the call table has this many words
abbrev pub table_size : ℕ
table_size = WORDS

-- the source that a record belongs to
unfoldable pub owner : ℕ → ℕ
owner id = if nat_lt id FIRST_RECORDS then id / FIRST_OF_ONE else (id - FIRST_RECORDS) / MORE_OF_ONE

-- the local number of a record
unfoldable pub local : ℕ → ℕ
local id = if nat_lt id FIRST_RECORDS then id % FIRST_OF_ONE else FIRST_OF_ONE + (id - FIRST_RECORDS) % MORE_OF_ONE

-- the record of this source with this local number
unfoldable pub record_of : ℕ → ℕ → ℕ
record_of source k = if nat_lt k FIRST_OF_ONE then FIRST_OF_ONE * source + k else FIRST_RECORDS + MORE_OF_ONE * source + (k - FIRST_OF_ONE)
