-- The page of a replay, and what a call of `show_page` reads and writes.
use Rattle.std.specs.Prelude.{◌≡◌, ℕ, List, [], ◌∷◌, ◌++◌, Option, Some, None, Ok, codes}
use Rattle.std.specs.Fmt.{decimal}
use Rattle.std.specs.List.{flat_map}
use Rattle.smp_script.specs.Script.{Script, script_of}
use Rattle.smp_script.specs.Transforms.{HasFault, Transforming, Transforms}
use Rattle.smp_script.specs.declared.mode.Mode.TheVariants.{Replay}
use Rattle.smp_script.specs.declared.outcome.Outcome.{Outcome}
use Rattle.trace_events.specs.Replays.{ending_of, rows_of_script}
use Rattle.trace_events.specs.declared.rows.Row.{Row}
use Rattle.trace_events.specs.declared.rows.What.{What}
use Rattle.trace_events.specs.declared.rows.What.TheVariants.{Stepped}
use Rattle.view.specs.Cells.{cell_of}
use Rattle.view.specs.Choice.{marked_in}
use Rattle.view.specs.declared.choice.Mark.{Mark}
use Rattle.view.specs.declared.page_replay.TheConstants.{BEFORE_EVENTS, BEFORE_MARK, PARTS, REPLAY}
use Rattle.view.specs.declared.page_script.TheConstants.{HELPERS, LANES}
use Rattle.view.specs.declared.page_style.TheConstants.{STYLE}

-- what a step found and what it put, where it did
abbrev pub found_in : What → Option ℕ
found_in (Stepped seen) = seen.found
found_in _ = None

abbrev pub put_in : What → Option ℕ
put_in (Stepped seen) = seen.put
put_in _ = None

-- a number, or a dash where there is none
abbrev pub number_text : Option ℕ → List ℕ
number_text None = codes "-"
number_text (Some n) = decimal n

-- the line of an event: its number, its line of the script, its CPU, what was found and put there, and the cell of the table
abbrev pub row_line : Row → List ℕ
row_line row =
    decimal row.number ++ codes " " ++ decimal row.line ++ codes " " ++ decimal row.cpu ++ codes " " ++ number_text (found_in row.what) ++ codes " "
    ++ number_text (put_in row.what) ++ codes " " ++ cell_of row.what ++ 10 ∷ []

-- the script, the lines of all events and the number of the marked one, each between constants
abbrev pub page_of : Option Mark → List ℕ → List Row → List ℕ
page_of mark text rows =
    STYLE.now ++ PARTS.now ++ text ++ BEFORE_EVENTS.now ++ flat_map row_line rows ++ BEFORE_MARK.now ++ number_text (marked_in mark rows)
    ++ HELPERS.now ++ REPLAY.now ++ LANES.now

-- The text is a lawful script, and this is the page of its replay: of what `Core` answers to its events, one after the other.
pub record IsPaged (mark : Option Mark) (text out : List ℕ) (ending : Outcome) : Type 0 where
  pub script : Script
  pub lawful : script_of Replay text ≡ Ok script
  pub page : out ≡ page_of mark text (rows_of_script script)
  pub ended : ending ≡ ending_of (rows_of_script script)

-- What a call of `show_page` did, by its answer: what was read is a script, and what was written is the page of its replay.
abbrev pub Pages : Option Mark → Transforming Outcome
Pages mark = Transforms 65536 (IsPaged mark) (HasFault Replay)
