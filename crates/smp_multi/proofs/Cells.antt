-- Where words lie: a cell is of one word, and a store in a cell is a put at its word. Only this page knows.
use Rattle.std.proofs.Common.{◌≡◌, ℕ, ◌+◌, ◌-◌, ◌/◌, ◌%◌, ◌<◌, ◌==◌, Bool, true, false, nat_lt, cond, Some, None, option_map, List, length, get_or}
use Rattle.std.proofs.Common.{set, sym, refl, ap, ◌∙◌, arith}
use Rattle.std.proofs.lemmas.Bool.{ltb-true, lt-ltb, le-ltb}
use Rattle.smp_words.specs.Size.{cpus}
use Rattle.smp_words.specs.Put.{put_word}
use Rattle.smp_words.specs.Layout.{number_at}
use Rattle.smp_words.proofs.Placing.{stored_at}
use Rattle.smp_words.specs.declared.size.TheConstants.{NR_CPUS, MOST_KEYS, MOST_SITES}
use Rattle.smp_multi.specs.Names.{Word, Gate, Slot, Key, Entry, Site, Field}
use Rattle.smp_multi.specs.Names.field
use Rattle.smp_multi.specs.declared.cell.TheConstants.{STATE_AT, ACK_AT, ROLL_AT, TODO_AT, SLOTS_APART, FIRST_SLOT, FIRST_KEY, FIRST_ENTRY, FIRST_SITE}
use Rattle.smp_multi.specs.Cells.{cells, offset_of, place_of, cell_of, HasCell, number_in}

-- the field that lies so far from the beginning of its slot
field_at : ℕ → Field
field_at n =
    cond (n == 0) field.Kind (cond (n == 1) field.Mask (cond (n == 2) field.Active (cond (n == 3) field.Func (cond (n == 4) field.Arg (
    cond (n == STATE_AT) field.State
    (cond (n == ACK_AT) field.Ack (cond (n == ROLL_AT) field.Roll (cond (n == TODO_AT) field.Todo (cond (n == TODO_AT + 1) field.Result field.Done)))))))))

field_here : (f : Field) → field_at (offset_of f) ≡ f
unfolding field_at
field_here field.Kind = refl
field_here _ = refl

pub offset_low : (f : Field) → offset_of f < SLOTS_APART
offset_low field.Kind = omega arith
offset_low _ = omega arith

-- the word in a cell
abbrev word_at : ℕ → Word
word_at c =
    cond (nat_lt c FIRST_SLOT) Gate (
    cond (nat_lt c FIRST_KEY) (Slot ((c - FIRST_SLOT) / SLOTS_APART) (field_at ((c - FIRST_SLOT) % SLOTS_APART))) (
    cond (nat_lt c FIRST_ENTRY) (Key (c - FIRST_KEY)) (cond (nat_lt c FIRST_SITE) (Entry (c - FIRST_ENTRY)) (Site (c - FIRST_SITE)))))

slot_here : (s : ℕ) (f : Field) → s < NR_CPUS → word_at (place_of (Slot s f)) ≡ Slot s f
slot_here s f low =
    let c = place_of (Slot s f) in
    let small = offset_low f in
    let row : (c - FIRST_SLOT) / SLOTS_APART ≡ s = omega arith in
    let column : (c - FIRST_SLOT) % SLOTS_APART ≡ offset_of f = omega arith in
    rw (le-ltb c FIRST_SLOT (omega arith), lt-ltb c FIRST_KEY (omega arith), row, column) (ap (Slot s) (field_here f))

key_here : (k : ℕ) → k < MOST_KEYS → word_at (place_of (Key k)) ≡ Key k
key_here k low =
    let c = place_of (Key k) in
    rw (le-ltb c FIRST_SLOT (omega arith), le-ltb c FIRST_KEY (omega arith), lt-ltb c FIRST_ENTRY (omega arith)) (ap Key (omega arith))

entry_here : (i : ℕ) → i < MOST_SITES → word_at (place_of (Entry i)) ≡ Entry i
entry_here i low =
    let c = place_of (Entry i) in
    rw (le-ltb c FIRST_SLOT (omega arith), le-ltb c FIRST_KEY (omega arith), le-ltb c FIRST_ENTRY (omega arith), lt-ltb c FIRST_SITE (omega arith))
    (ap Entry (omega arith))

site_here : (i : ℕ) → i < MOST_SITES → word_at (place_of (Site i)) ≡ Site i
site_here i low =
    let c = place_of (Site i) in
    rw (le-ltb c FIRST_SLOT (omega arith), le-ltb c FIRST_KEY (omega arith), le-ltb c FIRST_ENTRY (omega arith), le-ltb c FIRST_SITE (omega arith))
    (ap Site (omega arith))

-- a cell that there is where a test passed
cell_if : (b : Bool) (x place i : ℕ) → option_map (λ _. place) (cond b (Some x) None) ≡ Some i → (b ≡ true) × (place ≡ i)
cell_if true x place i e = (refl, let f : Some place ≡ Some i = e in cc)
cell_if false x place i e = absurd (let f : None ≡ Some i = e in cc)

no_cell : (i : ℕ) → None ≡ Some i → ⊥
no_cell i e = cc

-- the word is told by the cell, which the table has
word_told : (w : Word) (i : ℕ) → cell_of w ≡ Some i → (w ≡ word_at i) × (i < cells)
word_told Gate i e = let h = cell_if true 0 0 i e in rw (sym h.1) (refl, omega arith)
word_told (Slot s f) i e =
    let h = cell_if (nat_lt s NR_CPUS) _ (place_of (Slot s f)) i e in
    let low = ltb-true s NR_CPUS h.0 in
    let small = offset_low f in
    let is = h.1 in (sym (slot_here s f low) ∙ ap word_at is, omega arith)
word_told (Key k) i e =
    let h = cell_if (nat_lt k MOST_KEYS) _ (place_of (Key k)) i e in
    let low = ltb-true k MOST_KEYS h.0 in
    let is = h.1 in (sym (key_here k low) ∙ ap word_at is, omega arith)
word_told (Entry k) i e =
    let h = cell_if (nat_lt k MOST_SITES) _ (place_of (Entry k)) i e in
    let low = ltb-true k MOST_SITES h.0 in
    let is = h.1 in (sym (entry_here k low) ∙ ap word_at is, omega arith)
word_told (Site k) i e =
    let h = cell_if (nat_lt k MOST_SITES) _ (place_of (Site k)) i e in
    let low = ltb-true k MOST_SITES h.0 in
    let is = h.1 in (sym (site_here k low) ∙ ap word_at is, omega arith)
word_told _ i e = absurd (no_cell i e)

-- a cell is of one word
pub one_cell : (u w : Word) (i : ℕ) → cell_of u ≡ Some i → cell_of w ≡ Some i → u ≡ w
one_cell u w i e f = (word_told u i e).0 ∙ sym (word_told w i f).0

pub cell_below : (w : Word) (i : ℕ) → cell_of w ≡ Some i → i < cells
cell_below w i e = (word_told w i e).1

-- the words that there are have cells
pub gate_cell : HasCell Gate
gate_cell = (0, refl)

cell_kept : (b : Bool) (x place : ℕ) → b ≡ true → option_map (λ (_ : ℕ). place) (cond b (Some x) None) ≡ Some place
cell_kept true x place e = refl
cell_kept false x place e = cc

pub slot_cell : (s : ℕ) (f : Field) → s < cpus → HasCell (Slot s f)
slot_cell s f low = (place_of (Slot s f), cell_kept (nat_lt s NR_CPUS) _ (place_of (Slot s f)) (lt-ltb s NR_CPUS low))

pub key_cell : (k : ℕ) → k < MOST_KEYS → HasCell (Key k)
key_cell k low = (place_of (Key k), cell_kept (nat_lt k MOST_KEYS) _ (place_of (Key k)) (lt-ltb k MOST_KEYS low))

pub entry_cell : (i : ℕ) → i < MOST_SITES → HasCell (Entry i)
entry_cell i low = (place_of (Entry i), cell_kept (nat_lt i MOST_SITES) _ (place_of (Entry i)) (lt-ltb i MOST_SITES low))

pub site_cell : (i : ℕ) → i < MOST_SITES → HasCell (Site i)
site_cell i low = (place_of (Site i), cell_kept (nat_lt i MOST_SITES) _ (place_of (Site i)) (lt-ltb i MOST_SITES low))

-- the number at the cell of a word, and a store there
pub number_here : (words : List ℕ) (w : Word) (i : ℕ) → cell_of w ≡ Some i → number_in words w ≡ get_or words i 0
number_here words w i e = ap (number_at words) e

pub stored_here : (words : List ℕ) (w : Word) (i n : ℕ) → length words ≡ cells → cell_of w ≡ Some i → number_in (set words i n) ≡ put_word (number_in words) w n
stored_here words w i n l e = stored_at cell_of one_cell words w i n (let b = cell_below w i e in omega arith) e
