-- The table of a replay with a mark for each CPU.
use Rattle.std.specs.Prelude.{ℕ, ◌%◌, ◌==◌, if◌then◌else◌, List, [], ◌∷◌, ◌++◌, length, codes}
use Rattle.std.specs.Fmt.{decimal}
use Rattle.std.specs.List.{flat_map}
use Rattle.view.specs.Cells.{front_text, padded}
use Rattle.trace_events.specs.declared.rows.Row.{Row}

-- the mark in the column of a CPU
abbrev pub mark_of : ℕ → ℕ → List ℕ
mark_of row_cpu cpu = if row_cpu == cpu then codes "*" else codes "."

-- the marks of a row, between bars
abbrev pub marks_text : List ℕ → ℕ → List ℕ
marks_text cpus row_cpu = codes " " ++ flat_map (mark_of row_cpu) cpus ++ codes " | "

-- what the CPU has done, behind its number
abbrev pub narrow_told : ℕ → List ℕ → List ℕ
narrow_told cpu text = if length text == 0 then codes "" else codes "CPU " ++ decimal cpu ++ codes ": " ++ text

-- a row
abbrev pub narrow_row : ℕ → List ℕ → List ℕ → Row → List ℕ → List ℕ
narrow_row script_width cpus script row text =
    front_text script_width row.number row.line script ++ marks_text cpus row.cpu ++ narrow_told row.cpu text ++ 10 ∷ []

-- the last digit of a CPU's number
abbrev pub digit_of : ℕ → List ℕ
digit_of cpu = decimal (cpu % 10)

-- that of each, between bars
abbrev pub digits_text : List ℕ → List ℕ
digits_text cpus = codes " | " ++ flat_map digit_of cpus ++ codes " |"

-- the head
abbrev pub narrow_head : ℕ → List ℕ → List ℕ
narrow_head script_width cpus =
    codes "event  line " ++ padded (codes "script") script_width ++ digits_text cpus ++ 10 ∷ []
