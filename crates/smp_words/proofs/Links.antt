-- The list of words as a function from names: a store in the list is a put at the name. With Sizes, the only proofs
-- that know the numbers of the words.
use Rattle.std.proofs.Common.{◌≡◌, ℕ, ◌+◌, ◌*◌, ◌-◌, ◌/◌, ◌%◌, ◌<◌, ◌≤◌, Bool, true, false, ◌==◌, nat_lt, cond, Option, Some, None, List, length, sym}
use Rattle.std.proofs.Common.{refl, ap, ◌∙◌, arith}
use Rattle.std.proofs.lemmas.Bool.{ltb-true, and_parts, lt-ltb, le-ltb}
use Rattle.smp_words.specs.Size.{cpus, records, table_size}
use Rattle.smp_words.specs.Put.{put_word}
use Rattle.smp_words.specs.Layout.{index_of, number_in, put_in, put_at, cpu_word, pair_word, record_word}
use Rattle.smp_words.proofs.Placing.{stored_at}
use Rattle.smp_words.specs.declared.size.TheConstants.{NR_CPUS, RECORDS, WORDS_OF_ONE, HEADS, INTRS, HANDS, QUEUED, RAN, FLAGS, FUNCS, INFOS, NEXTS}
use Rattle.smp_words.specs.declared.word.Word.{Word}
use Rattle.smp_words.specs.declared.word.Word.TheVariants.{Head, Intr, Hand, Queued, Ran, Flags, Func, Info, Next}

-- the word at this place among the words of a record
abbrev record_word_at : ℕ → ℕ → Word
record_word_at id k = cond (k == 0) (Flags id) (cond (k == 1) (Func id) (cond (k == 2) (Info id) (Next id)))

-- the word that has this number
abbrev word_at : ℕ → Word
word_at i =
    cond (nat_lt i INTRS) (Head i) (
    cond (nat_lt i HANDS) (Intr (i - INTRS)) (
    cond (nat_lt i QUEUED) (Hand (i - HANDS)) (
    cond (nat_lt i RAN) (Queued ((i - QUEUED) / NR_CPUS) ((i - QUEUED) % NR_CPUS)) (
    cond (nat_lt i FLAGS) (Ran ((i - RAN) / NR_CPUS) ((i - RAN) % NR_CPUS))
    (record_word_at ((i - FLAGS) / WORDS_OF_ONE) ((i - FLAGS) % WORDS_OF_ONE))))))

-- what a number says of its word
abbrev pub Reads : Word → ℕ → Type 0
Reads (Head c) i = (c < NR_CPUS) × (HEADS + c ≡ i)
Reads (Intr c) i = (c < NR_CPUS) × (INTRS + c ≡ i)
Reads (Hand c) i = (c < NR_CPUS) × (HANDS + c ≡ i)
Reads (Queued s d) i = (s < NR_CPUS) × (d < NR_CPUS) × (QUEUED + NR_CPUS * s + d ≡ i)
Reads (Ran d s) i = (d < NR_CPUS) × (s < NR_CPUS) × (RAN + NR_CPUS * d + s ≡ i)
Reads (Flags r) i = (r < RECORDS) × (FLAGS + WORDS_OF_ONE * r ≡ i)
Reads (Func r) i = (r < RECORDS) × (FUNCS + WORDS_OF_ONE * r ≡ i)
Reads (Info r) i = (r < RECORDS) × (INFOS + WORDS_OF_ONE * r ≡ i)
Reads (Next r) i = (r < RECORDS) × (NEXTS + WORDS_OF_ONE * r ≡ i)
Reads _ i = ⊥

some_is : (a b : ℕ) → Some a ≡ Some b → a ≡ b
some_is a b e = cc

cond_some : (b : Bool) (n i : ℕ) → cond b (Some n) None ≡ Some i → (b ≡ true) × (n ≡ i)
cond_some true n i e = (refl, some_is n i e)
cond_some false n i e = cc

cpu_reads : (base c i : ℕ) → cpu_word base c ≡ Some i → (c < NR_CPUS) × (base + c ≡ i)
cpu_reads base c i e = let p = cond_some (nat_lt c NR_CPUS) (base + c) i e in (ltb-true c NR_CPUS p.0, p.1)

pair_reads : (base x y i : ℕ) → pair_word base x y ≡ Some i → (x < NR_CPUS) × (y < NR_CPUS) × (base + NR_CPUS * x + y ≡ i)
pair_reads base x y i e = search (cond_some, and_parts, ltb-true, arith)

record_reads : (base r i : ℕ) → record_word base r ≡ Some i → (r < RECORDS) × (base + WORDS_OF_ONE * r ≡ i)
record_reads base r i e = let p = cond_some (nat_lt r RECORDS) (base + WORDS_OF_ONE * r) i e in (ltb-true r RECORDS p.0, p.1)

pub index_reads : (w : Word) (i : ℕ) → index_of w ≡ Some i → Reads w i
index_reads (Head c) i e = cpu_reads HEADS c i e
index_reads (Intr c) i e = cpu_reads INTRS c i e
index_reads (Hand c) i e = cpu_reads HANDS c i e
index_reads (Queued s d) i e = pair_reads QUEUED s d i e
index_reads (Ran d s) i e = pair_reads RAN d s i e
index_reads (Flags r) i e = record_reads FLAGS r i e
index_reads (Func r) i e = record_reads FUNCS r i e
index_reads (Info r) i e = record_reads INFOS r i e
index_reads (Next r) i e = record_reads NEXTS r i e
index_reads _ i e = cc

-- the tests of word_at, for a number of a later kind
record Past (i : ℕ) : Type 0 where
  intrs : nat_lt i INTRS ≡ false
  hands : nat_lt i HANDS ≡ false
  queued : nat_lt i QUEUED ≡ false
  ran : nat_lt i RAN ≡ false
  flags : nat_lt i FLAGS ≡ false

past : (i : ℕ) → FLAGS ≤ i → Past i
past i l = search (le-ltb, arith)

-- the word at a place among a record's words
record_at : (i r k : ℕ) → k < WORDS_OF_ONE → FLAGS + k + WORDS_OF_ONE * r ≡ i → word_at i ≡ record_word_at r k
record_at i r k l e = search (past, arith)

word_at-reads : (w : Word) (i : ℕ) → Reads w i → word_at i ≡ w
word_at-reads (Head c) i p = search (lt-ltb, arith)
word_at-reads (Intr c) i p = search (le-ltb, lt-ltb, arith)
word_at-reads (Hand c) i p = search (le-ltb, lt-ltb, arith)
word_at-reads (Queued s d) i p = search (le-ltb, lt-ltb, arith)
word_at-reads (Ran s d) i p = search (le-ltb, lt-ltb, arith)
word_at-reads (Flags r) i p = record_at i r 0 (omega arith) (omega arith)
word_at-reads (Func r) i p = record_at i r 1 (omega arith) (omega arith)
word_at-reads (Info r) i p = record_at i r 2 (omega arith) (omega arith)
word_at-reads (Next r) i p = record_at i r 3 (omega arith) (omega arith)
word_at-reads _ i p = absurd p

-- the word that has a word's number is that word
pub word_at-index : (w : Word) (i : ℕ) → index_of w ≡ Some i → word_at i ≡ w
word_at-index w i e = word_at-reads w i (index_reads w i e)

-- a number has one name
pub one_word : (u w : Word) (i : ℕ) → index_of u ≡ Some i → index_of w ≡ Some i → u ≡ w
one_word u w i e f = sym (word_at-index u i e) ∙ word_at-index w i f

-- the number of a word that there is
pub record HasIndex (w : Word) : Type 0 where
  pub index : ℕ
  pub below : index < table_size
  pub is_index : index_of w ≡ Some index

-- a store in a word that there is
pub number_in-put_in : (words : List ℕ) (w : Word) (n : ℕ) → length words ≡ table_size → HasIndex w
    → number_in (put_in words w n) ≡ put_word (number_in words) w n
number_in-put_in words w n l h = ap (λ (o : Option ℕ). number_in (put_at words o n)) h.is_index
    ∙ stored_at index_of one_word words w h.index n (let b = h.below in omega arith) h.is_index

-- the words whose CPUs or record there are
abbrev pub IsInTable : Word → Type 0
IsInTable (Head c) = c < cpus
IsInTable (Intr c) = c < cpus
IsInTable (Hand c) = c < cpus
IsInTable (Queued s d) = (s < cpus) × (d < cpus)
IsInTable (Ran d s) = (d < cpus) × (s < cpus)
IsInTable (Flags r) = r < records
IsInTable (Func r) = r < records
IsInTable (Info r) = r < records
IsInTable (Next r) = r < records
IsInTable _ = ⊥

of_cpu : (base c : ℕ) → c < cpus → cpu_word base c ≡ Some (base + c)
of_cpu base c l = rw (lt-ltb c cpus l) refl

of_pair : (base x y : ℕ) → x < cpus → y < cpus → pair_word base x y ≡ Some (base + NR_CPUS * x + y)
of_pair base x y l m = rw (lt-ltb x cpus l, lt-ltb y cpus m) refl

of_record : (base r : ℕ) → r < records → record_word base r ≡ Some (base + WORDS_OF_ONE * r)
of_record base r l = rw (lt-ltb r records l) refl

-- these words have numbers
pub in_table : (w : Word) → IsInTable w → HasIndex w
in_table (Head c) l = record { index = HEADS + c; below = omega arith; is_index = of_cpu HEADS c l }
in_table (Intr c) l = record { index = INTRS + c; below = omega arith; is_index = of_cpu INTRS c l }
in_table (Hand c) l = record { index = HANDS + c; below = omega arith; is_index = of_cpu HANDS c l }
in_table (Queued s d) l = record { index = QUEUED + NR_CPUS * s + d; below = omega arith; is_index = of_pair QUEUED s d l.0 l.1 }
in_table (Ran d s) l = record { index = RAN + NR_CPUS * d + s; below = omega arith; is_index = of_pair RAN d s l.0 l.1 }
in_table (Flags r) l = record { index = FLAGS + WORDS_OF_ONE * r; below = omega arith; is_index = of_record FLAGS r l }
in_table (Func r) l = record { index = FUNCS + WORDS_OF_ONE * r; below = omega arith; is_index = of_record FUNCS r l }
in_table (Info r) l = record { index = INFOS + WORDS_OF_ONE * r; below = omega arith; is_index = of_record INFOS r l }
in_table (Next r) l = record { index = NEXTS + WORDS_OF_ONE * r; below = omega arith; is_index = of_record NEXTS r l }
in_table _ l = absurd l

-- no queue begins at a CPU that there cannot be
pub no_head : (words : List ℕ) (cpu : ℕ) → cpus ≤ cpu → number_in words (Head cpu) ≡ 0
no_head words cpu l = rw (le-ltb cpu cpus l) refl
