-- What is in the table of a replay, with one column for each CPU.
use Rattle.std.specs.Prelude.{ℕ, ◌-◌, Bool, true, false, ◌||◌, ◌==◌, if◌then◌else◌, List, [], ◌∷◌, ◌++◌, length, replicate, Option, Some, None, codes}
use Rattle.std.specs.Fmt.{decimal}
use Rattle.std.specs.List.{flat_map, list_any}
use Rattle.smp_mask.specs.declared.error.SmpError.{SmpError}
use Rattle.smp_mask.specs.declared.error.SmpError.TheVariants as errors
use Rattle.smp_words.specs.declared.seen.Note.{Note}
use Rattle.smp_words.specs.declared.seen.Note.TheVariants as notes
use Rattle.smp_words.specs.declared.seen.Seen.{Seen}
use Rattle.smp_script.specs.Errors.{error_number}
use Rattle.smp_replay.specs.Text.{step_text}
use Rattle.trace_events.specs.declared.rows.Row.{Row}
use Rattle.trace_events.specs.declared.rows.What.{What}
use Rattle.trace_events.specs.declared.rows.What.TheVariants.{Began, Stepped, Refused, Shown}

-- this number of spaces
abbrev pub blanks : ℕ → List ℕ
blanks n = replicate n 32

-- a text, and spaces behind it up to this width
abbrev pub padded : List ℕ → ℕ → List ℕ
padded text width = text ++ blanks (width - length text)

-- what an error means
abbrev pub error_text : SmpError → List ℕ
error_text errors.NoCpu = codes "no such CPU, or it is not online"
error_text errors.Busy = codes "busy"
error_text errors.NoStopper = codes "a CPU of the stop is not online"
error_text errors.BadArgument = codes "an argument that is not taken here"
error_text errors.Contended = codes "the tries are used up"
error_text errors.NoMemory = codes "no memory"
error_text errors.Stale = codes "this CPU may not enter that slot now"
error_text errors.SlotBusy = codes "the own stop is not collected yet"
error_text (errors.BadScript line cause) = codes "the script is not lawful"
error_text errors.IdleStep = codes "the CPU is inside no command"
error_text (errors.BadMask position) = codes "no CPU list"
error_text (errors.StreamFailed side) = codes "a device failed"
error_text (errors.KeyRange edge) = codes "the key's count stands at an end of its range"

-- what a note that is an error means
abbrev pub meaning_of : Option Note → List ℕ
meaning_of (Some notes.NoCpu) = codes " (no such CPU, or it is not online)"
meaning_of (Some notes.Busy) = codes " (busy: the record is locked)"
meaning_of (Some notes.Contended) = codes " (the tries are used up)"
meaning_of (Some notes.Stale) = codes " (this CPU may not enter that slot now)"
meaning_of (Some notes.KeyRange) = codes " (the key's count stands at an end of its range)"
meaning_of _ = codes ""

abbrev pub step_cell : Seen → List ℕ
step_cell seen = step_text seen ++ meaning_of seen.note

abbrev pub refused_text : SmpError → List ℕ
refused_text error = codes "refused: E" ++ decimal (error_number error) ++ codes ", " ++ error_text error

-- what is in the column of its CPU
abbrev pub cell_of : What → List ℕ
cell_of Began = codes "starts"
cell_of (Stepped seen) = step_cell seen
cell_of (Refused error) = refused_text error
cell_of Shown = codes ""

-- in the column of a CPU: nothing where the row is of another
abbrev pub cell_at : ℕ → List ℕ → ℕ → List ℕ
cell_at row_cpu text cpu = if row_cpu == cpu then text else codes ""

-- one cell of the table, with the bar behind it
abbrev pub table_cell : List ℕ → ℕ → List ℕ
table_cell text width = codes " " ++ padded text width ++ codes " |"

abbrev pub is_column : List ℕ → ℕ → Bool
is_column cpus cpu = list_any (λ c. c == cpu) cpus

-- what is told of a CPU that has no column
abbrev pub apart : List ℕ → ℕ → List ℕ → List ℕ
apart cpus cpu text =
    if is_column cpus cpu || (length text == 0) then codes "" else codes " CPU " ++ decimal cpu ++ codes ": " ++ text

-- the number of an event, its line's, and the line itself
abbrev pub front_text : ℕ → ℕ → ℕ → List ℕ → List ℕ
front_text width number line script =
    padded (decimal number) 6 ++ codes " " ++ padded (decimal line) 4 ++ codes " " ++ padded script width ++ codes " |"

-- the cells of a row
abbrev pub cells : ℕ → List ℕ → ℕ → List ℕ → List ℕ
cells width cpus row_cpu text = flat_map (λ cpu. table_cell (cell_at row_cpu text cpu) width) cpus

-- a row, with this text in the column of its CPU
abbrev pub told_text : ℕ → ℕ → List ℕ → List ℕ → Row → List ℕ → List ℕ
told_text script_width width cpus script row text =
    front_text script_width row.number row.line script ++ cells width cpus row.cpu text ++ apart cpus row.cpu text ++ 10 ∷ []

-- a row: in the column of each CPU what it has done
abbrev pub row_text : ℕ → ℕ → List ℕ → List ℕ → Row → List ℕ
row_text script_width width cpus script row = told_text script_width width cpus script row (cell_of row.what)

abbrev pub head_cell : ℕ → ℕ → List ℕ
head_cell width cpu = table_cell (codes "CPU " ++ decimal cpu) width

-- the head of the table
abbrev pub head_text : ℕ → ℕ → List ℕ → List ℕ
head_text script_width width cpus =
    codes "event  line " ++ padded (codes "script") script_width ++ codes " |" ++ flat_map (head_cell width) cpus ++ 10 ∷ []
