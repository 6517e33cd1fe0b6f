-- Where words lie: a cell is of one word, and a store in a cell is a put at its word. Only this page knows.
use Rattle.std.proofs.Common.{◌≡◌, ℕ, zero, suc, ◌+◌, ◌*◌, ◌-◌, ◌/◌, ◌%◌, ◌<◌, ◌≤◌, nat_lt, cond, Some, None, Option, option_map, List, [], ◌∷◌, length}
use Rattle.std.proofs.Common.{get_or, set, sym, refl, ap, ◌∙◌, arith}
use mathlib.Core.Option.{some, some-injective, some-ne-none}
use lib.ListN.{get_elem?}
use Rattle.std.proofs.lemmas.Bool.{lt-ltb, le-ltb}
use Rattle.smp_words.specs.Size.{cpus, records}
use Rattle.smp_words.specs.Put.{put_word}
use Rattle.smp_words.specs.Layout.{index_of, number_at}
use Rattle.smp_words.proofs.Links.{one_word, HasIndex, IsInTable, in_table, Reads, index_reads}
use Rattle.smp_words.proofs.Placing.{stored_at}
use Rattle.smp_words.specs.declared.size.TheConstants.{NR_CPUS, WORDS_OF_ONE, HEADS, INTRS, HANDS, QUEUED, RAN, FLAGS, FUNCS, INFOS, NEXTS}
use Rattle.smp_queue.specs.{Word, Head, Intr, Hand, Queued, Ran, Flags, Func, Info, Next, cells, cpu_place, pair_place, record_place, place_of, cell_of}
use Rattle.smp_queue.specs.{HasCell, number_in}
use Rattle.smp_queue.specs.declared.cell.TheConstants.{LINE, TALLIES, ROW, TALLIES_APART, FIRST_RECORD, RECORDS_APART}

got_or : (xs : List ℕ) (i n : ℕ) → get_elem? xs i ≡ some n → get_or xs i 0 ≡ n
got_or [] i n e = absurd (some-ne-none n (sym e))
got_or (x ∷ xs) zero n e = some-injective x n e
got_or (x ∷ xs) (suc i) n e = got_or xs i n e

-- no two numbers have one cell

-- the number of the tally in this row and column of all tallies
abbrev tally_number : ℕ → ℕ → ℕ
tally_number row column = cond (nat_lt column ROW) (QUEUED + NR_CPUS * row + column) (RAN + NR_CPUS * row + (column - ROW))

-- the number of the word in this cell
abbrev number_of : ℕ → ℕ
number_of c =
    cond (nat_lt c TALLIES) (c / LINE) (
    cond (nat_lt c FIRST_RECORD) (tally_number ((c - TALLIES) / TALLIES_APART) ((c - TALLIES) % TALLIES_APART))
    (FLAGS + WORDS_OF_ONE * ((c - FIRST_RECORD) / RECORDS_APART) + (c - FIRST_RECORD) % RECORDS_APART))

alone_numbered : (base cpu i : ℕ) → base + cpu ≡ i → i < QUEUED → number_of (cpu_place base cpu) ≡ i
alone_numbered base cpu i e l = search (lt-ltb, arith)

queued_numbered : (s d i : ℕ) → s < NR_CPUS → d < NR_CPUS → QUEUED + NR_CPUS * s + d ≡ i → number_of (pair_place 0 s d) ≡ i
queued_numbered s d i l m e = search (le-ltb, lt-ltb, arith)

ran_numbered : (d s i : ℕ) → d < NR_CPUS → s < NR_CPUS → RAN + NR_CPUS * d + s ≡ i → number_of (pair_place ROW d s) ≡ i
ran_numbered d s i l m e = search (le-ltb, lt-ltb, arith)

record_numbered : (base r i : ℕ) → FLAGS ≤ base → base ≤ NEXTS → base + WORDS_OF_ONE * r ≡ i → number_of (record_place base r) ≡ i
record_numbered base r i l m e = search (le-ltb, arith)

numbered : (w : Word) (i : ℕ) → Reads w i → number_of (place_of w) ≡ i
numbered (Head c) i p = alone_numbered HEADS c i p.1 (omega arith)
numbered (Intr c) i p = alone_numbered INTRS c i p.1 (omega arith)
numbered (Hand c) i p = alone_numbered HANDS c i p.1 (omega arith)
numbered (Queued s d) i p = queued_numbered s d i p.0 p.1 p.2
numbered (Ran d s) i p = ran_numbered d s i p.0 p.1 p.2
numbered (Flags r) i p = record_numbered FLAGS r i (omega arith) (omega arith) p.1
numbered (Func r) i p = record_numbered FUNCS r i (omega arith) (omega arith) p.1
numbered (Info r) i p = record_numbered INFOS r i (omega arith) (omega arith) p.1
numbered (Next r) i p = record_numbered NEXTS r i (omega arith) (omega arith) p.1
numbered _ i p = absurd p

place_below : (w : Word) (i : ℕ) → Reads w i → place_of w < cells
place_below (Head c) i p = omega arith
place_below _ i p = omega arith

-- the number of the word in a cell
record HasNumber (o : Option ℕ) (place cell : ℕ) : Type 0 where
  number : ℕ
  is_number : o ≡ Some number
  is_cell : place ≡ cell

has_number : (o : Option ℕ) (place cell : ℕ) → option_map (λ _. place) o ≡ Some cell → HasNumber o place cell
has_number None place cell e = absurd (let f : None ≡ Some cell = e in cc)
has_number (Some i) place cell e = record { number = i; is_number = refl; is_cell = (let f : Some place ≡ Some cell = e in cc) }

-- the number is told by the cell
number_told : (w : Word) (i : ℕ) → cell_of w ≡ Some i → index_of w ≡ Some (number_of i)
number_told w i e = search (has_number, numbered, index_reads, arith)

-- a cell is of one word
pub one_cell : (u w : Word) (i : ℕ) → cell_of u ≡ Some i → cell_of w ≡ Some i → u ≡ w
one_cell u w i e f = one_word u w (number_of i) (number_told u i e) (number_told w i f)

-- a word that has a number has a cell
pub has_cell_of : (w : Word) → HasIndex w → HasCell w
has_cell_of w h = (place_of w, ap (option_map (λ _. place_of w)) h.is_index)

-- the words of the CPUs and records that there are have cells
pub has_cell : (w : Word) → IsInTable w → HasCell w
has_cell w l = has_cell_of w (in_table w l)

pub cell_below : (w : Word) (i : ℕ) → cell_of w ≡ Some i → i < cells
cell_below w i e = search (has_number, place_below, index_reads, arith)

-- a word that has no cell is 0

pub no_hand : (words : List ℕ) (cpu : ℕ) → cpus ≤ cpu → number_in words (Hand cpu) ≡ 0
no_hand words cpu l = rw (le-ltb cpu cpus l) refl

pub no_flags : (words : List ℕ) (id : ℕ) → records ≤ id → number_in words (Flags id) ≡ 0
no_flags words id l = rw (le-ltb id records l) refl

-- the number at the cell of a word, and a store there
pub number_here : (words : List ℕ) (w : Word) (i : ℕ) → cell_of w ≡ Some i → number_in words w ≡ get_or words i 0
number_here words w i e = ap (number_at words) e

pub stored_here : (words : List ℕ) (w : Word) (i n : ℕ) → length words ≡ cells → cell_of w ≡ Some i → number_in (set words i n) ≡ put_word (number_in words) w n
stored_here words w i n l e = stored_at cell_of one_cell words w i n (let b = cell_below w i e in omega arith) e

-- the number that is found at the cell of a word
pub number_got : (words : List ℕ) (w : Word) (i n : ℕ) → cell_of w ≡ Some i → get_elem? words i ≡ some n → n ≡ number_in words w
number_got words w i n e got = sym (number_here words w i e ∙ got_or words i n got)
