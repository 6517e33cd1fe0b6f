-- Where each word lies in the table.
use Rattle.std.specs.Prelude.{◌≡◌, ℕ, ◌-◌, ◌+◌, ◌*◌, Option, Some, List, option_map}
use Rattle.smp_words.specs.Layout.{index_of, number_at}
use Rattle.smp_words.specs.declared.size.TheConstants.{HEADS, INTRS, HANDS, FLAGS, FUNCS, INFOS, NEXTS}
use Rattle.smp_queue.specs.Names.{Word, Head, Intr, Hand, Queued, Ran, Flags, Func, Info, Next}
use Rattle.smp_queue.specs.declared.cell.TheConstants.{LINE, TALLIES, ROW, TALLIES_APART, FIRST_RECORD, RECORDS_APART, CELLS}

-- how many cells the table has
abbrev pub cells : ℕ
cells = CELLS

-- where a word of a CPU lies: it has a line
abbrev pub cpu_place : ℕ → ℕ → ℕ
cpu_place base cpu = LINE * (base + cpu)

-- where a tally lies, in a row of a CPU that begins so far after its first
abbrev pub pair_place : ℕ → ℕ → ℕ → ℕ
pair_place row of other = TALLIES + TALLIES_APART * of + row + other

-- where a word of a record lies
abbrev pub record_place : ℕ → ℕ → ℕ
record_place base r = FIRST_RECORD + (base - FLAGS) + RECORDS_APART * r

-- where a word lies
abbrev pub place_of : Word → ℕ
place_of (Head cpu) = cpu_place HEADS cpu
place_of (Intr cpu) = cpu_place INTRS cpu
place_of (Hand cpu) = cpu_place HANDS cpu
place_of (Queued from to) = pair_place 0 from to
place_of (Ran by from) = pair_place ROW by from
place_of (Flags r) = record_place FLAGS r
place_of (Func r) = record_place FUNCS r
place_of (Info r) = record_place INFOS r
place_of (Next r) = record_place NEXTS r
place_of _ = 0

-- the cell of a word; none where there is no such CPU or record
abbrev pub cell_of : Word → Option ℕ
cell_of word = option_map (λ _. place_of word) (index_of word)

-- the word has a cell
abbrev pub HasCell : Word → Type 0
HasCell word = (cell : ℕ) × (cell_of word ≡ Some cell)

-- the number in a word
abbrev pub number_in : List ℕ → Word → ℕ
number_in cells word = number_at cells (cell_of word)
