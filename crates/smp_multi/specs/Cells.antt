-- Where each word lies in the table.
use Rattle.std.specs.Prelude.{◌≡◌, ℕ, ◌+◌, ◌*◌, Option, Some, List, option_map}
use Rattle.smp_words.specs.Layout.{number_at}
use Rattle.smp_words.specs.StopLayout.{stop_index_of}
use Rattle.smp_multi.specs.Names.{Word, Slot, Key, Entry, Site, Field}
use Rattle.smp_multi.specs.Names.field
use Rattle.smp_multi.specs.declared.cell.TheConstants.{STATE_AT, ACK_AT, ROLL_AT, TODO_AT, DONE_AT, SLOTS_APART, FIRST_SLOT, FIRST_KEY, FIRST_ENTRY, FIRST_SITE}
use Rattle.smp_multi.specs.declared.cell.TheConstants.{CELLS}

-- how many cells the table has
abbrev pub cells : ℕ
cells = CELLS

-- how far a field lies from the beginning of its slot
abbrev pub offset_of : Field → ℕ
offset_of field.Kind = 0
offset_of field.Mask = 1
offset_of field.Active = 2
offset_of field.Func = 3
offset_of field.Arg = 4
offset_of field.State = STATE_AT
offset_of field.Ack = ACK_AT
offset_of field.Roll = ROLL_AT
offset_of field.Todo = TODO_AT
offset_of field.Result = TODO_AT + 1
offset_of field.Done = DONE_AT

-- where a word lies
abbrev pub place_of : Word → ℕ
place_of (Slot s f) = FIRST_SLOT + SLOTS_APART * s + offset_of f
place_of (Key k) = FIRST_KEY + k
place_of (Entry i) = FIRST_ENTRY + i
place_of (Site i) = FIRST_SITE + i
place_of _ = 0

-- the cell of a word; none where there is no such slot, key or site
abbrev pub cell_of : Word → Option ℕ
cell_of word = option_map (λ _. place_of word) (stop_index_of word)

-- the word has a cell
abbrev pub HasCell : Word → Type 0
HasCell word = (cell : ℕ) × (cell_of word ≡ Some cell)

-- the number in a word
abbrev pub number_in : List ℕ → Word → ℕ
number_in cells word = number_at cells (cell_of word)
