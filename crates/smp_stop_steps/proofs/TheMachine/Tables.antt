-- The words of a stop table as a function from names: a store in the table is a put at the name.
use Rattle.std.proofs.Common.{◌≡◌, ◌≢◌, ℕ, ◌+◌, ◌*◌, ◌<◌, ◌≤◌, Bool, true, false, ◌==◌, cond, Option, Some, None, List, length, refl, ap, arith, lt-ltb, le-ltb}
use Rattle.std.proofs.Common.{ne_eqb}
use Rattle.std.proofs.{lemmas.Bool.eq-eqb, lemmas.Bool.cases_lt, lemmas.List.get_or-set_same, lemmas.List.get_or-set_other, lemmas.List.length-set}
use Rattle.std.specs.{Int.Bits.bit_and, Prelude.slice_set, Prelude.slice_index}
use Rattle.smp_words.specs.declared.access.Access.TheVariants.{Load, Store, Swap, Exchange, Sub, And}
use Rattle.smp_words.specs.declared.size.TheConstants.{NR_CPUS, FIELDS, SLOT_WORDS}
use Rattle.smp_words.specs.{Put.place_of, Access.one_less, Access.put_if, Layout.number_at, Layout.put_at}
use Rattle.smp_words.proofs.SameWords.{same_word-true, same_word-itself, one_place}
use Rattle.smp_stop_steps.specs.{MOST_KEYS, MOST_SITES, put_word, word_of, at_after, cpus, StopWords, slot_cell, stop_number, stop_put, stop_words_after}
use Rattle.smp_stop_steps.specs.{IsStopTable, Access, Field, Word, Gate, Slot, Key, Entry, Site}

-- the words that are in the table
abbrev pub IsStopWord : Word → Type 0
IsStopWord Gate = Unit {0}
IsStopWord (Slot s f) = s < cpus
IsStopWord (Key k) = k < MOST_KEYS
IsStopWord (Entry i) = i < MOST_SITES
IsStopWord (Site i) = i < MOST_SITES
IsStopWord _ = ⊥

place_below : (f : Field) → place_of f < FIELDS
place_below f = search arith

cell_is : (s : ℕ) (f : Field) → s < NR_CPUS → slot_cell s f ≡ Some (FIELDS * s + place_of f)
cell_is s f low = ap (λ b. cond b (Some (FIELDS * s + place_of f)) None) (lt-ltb s NR_CPUS low)

cell_none : (s : ℕ) (f : Field) → NR_CPUS ≤ s → slot_cell s f ≡ None
cell_none s f high = ap (λ b. cond b (Some (FIELDS * s + place_of f)) None) (le-ltb s NR_CPUS high)

-- a list with one element put, by index
list_put : (xs : List ℕ) (i n j : ℕ) → i < length xs → slice_index (slice_set xs i n) j ≡ cond (j == i) n (slice_index xs j)
list_put xs i n j low = search (get_or-set_same, eq-eqb, get_or-set_other, ne_eqb, arith)

slot_put_same : (xs : List ℕ) (s : ℕ) (f : Field) (n : ℕ) → s < NR_CPUS → length xs ≡ SLOT_WORDS → number_at (put_at xs (slot_cell s f) n) (slot_cell s f) ≡ n
slot_put_same xs s f n low long = search (place_below, cell_is, get_or-set_same, arith)

slot_put_other : (xs : List ℕ) (s t : ℕ) (f g : Field) (n : ℕ) → s < NR_CPUS → length xs ≡ SLOT_WORDS → ((t ≡ s) → g ≢ f) →
    number_at (put_at xs (slot_cell s f) n) (slot_cell t g) ≡ number_at xs (slot_cell t g)
slot_put_other xs s t f g n low long other = search (cases_lt, place_below, cell_is, get_or-set_other, one_place, cell_none, arith)

-- a store in a word that there is
number_put : (t : StopWords) → IsStopTable t → (w : Word) (n : ℕ) → IsStopWord w → (x : Word) → stop_number (stop_put t w n) x ≡ put_word (stop_number t) w n x
number_put t is Gate n h Gate = refl
number_put t is Gate n h _ = refl
number_put t is (Slot s f) n h (Slot r g) = search (t.slots, same_word-true, slot_put_same, slot_put_other, same_word-itself, arith)
number_put t is (Slot s f) n h _ = refl
number_put t is (Key k) n h (Key j) = list_put t.keys k n j (let long = is.keys in omega arith)
number_put t is (Key k) n h _ = refl
number_put t is (Entry i) n h (Entry j) = list_put t.entries i n j (let long = is.entries in omega arith)
number_put t is (Entry i) n h _ = refl
number_put t is (Site i) n h (Site j) = list_put t.sites i n j (let long = is.sites in omega arith)
number_put t is (Site i) n h _ = refl
number_put t is _ n h x = absurd h

put_by_name : (t : StopWords) → IsStopTable t → (w : Word) (n : ℕ) → IsStopWord w → stop_number (stop_put t w n) ≡ put_word (stop_number t) w n
put_by_name t is w n h = λ k x. number_put t is w n h x k

-- the words by name, after an access
pub stop_words_by_name : (t : StopWords) → IsStopTable t → (access : Access) → IsStopWord (word_of access) → stop_number (stop_words_after t access) ≡
    at_after (stop_number t) access
stop_words_by_name t is (Load w) h = refl
stop_words_by_name t is (Store w n) h = put_by_name t is w n h
stop_words_by_name t is (Swap w n) h = put_by_name t is w n h
stop_words_by_name t is (Exchange w expected n) h = go (stop_number t w == expected)
  where
    go : (b : Bool) → stop_number (put_if stop_put t w (cond b (Some n) None)) ≡ put_if put_word (stop_number t) w (cond b (Some n) None)
    go true = put_by_name t is w n h
    go false = refl
stop_words_by_name t is (Sub w) h = put_by_name t is w (one_less (stop_number t w)) h
stop_words_by_name t is (And w n) h = put_by_name t is w (bit_and (stop_number t w) n) h

length_put : (xs : List ℕ) (c : Option ℕ) (n : ℕ) → length (put_at xs c n) ≡ length xs
length_put xs c n = search (length-set, arith)

table_put : (t : StopWords) → IsStopTable t → (w : Word) (n : ℕ) → IsStopWord w → IsStopTable (stop_put t w n)
table_put t is w n h = search (length_put, t.slots, length-set, t.keys, t.entries, t.sites, arith)

-- a table stays one
pub table_after : (t : StopWords) → IsStopTable t → (access : Access) → IsStopWord (word_of access) → IsStopTable (stop_words_after t access)
table_after t is (Load w) h = is
table_after t is (Store w n) h = table_put t is w n h
table_after t is (Swap w n) h = table_put t is w n h
table_after t is (Exchange w expected n) h = go (stop_number t w == expected)
  where
    go : (b : Bool) → IsStopTable (put_if stop_put t w (cond b (Some n) None))
    go true = table_put t is w n h
    go false = is
table_after t is (Sub w) h = table_put t is w (one_less (stop_number t w)) h
table_after t is (And w n) h = table_put t is w (bit_and (stop_number t w) n) h
