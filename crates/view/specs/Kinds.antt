-- The kinds of texts, which their first lines tell.
use Rattle.std.specs.Prelude.{ℕ, ◌-◌, ◌==◌, if◌then◌else◌, List, [], ◌∷◌, length, take, slice_index_or, Option, Some, None, codes}
use Rattle.std.specs.Str.{bytes_eq}
use Rattle.smp_script.specs.Lines.{Line, fields_of, lines_of}
use Rattle.smp_script.specs.declared.mode.Mode.{Mode}
use Rattle.smp_script.specs.declared.mode.Mode.TheVariants as modes
use Rattle.view.specs.declared.text_kind.TextKind.{TextKind}
use Rattle.view.specs.declared.text_kind.TextKind.TheVariants as kinds

abbrev pub kind_text : TextKind → List ℕ
kind_text kinds.Replay = codes "replay"
kind_text kinds.Run = codes "run"
kind_text kinds.Exploration = codes "explore"
kind_text kinds.Trace = codes "trace"

-- the kind of this word
abbrev pub kind_named : List ℕ → Option TextKind
kind_named word =
    if bytes_eq word (kind_text kinds.Replay) then Some kinds.Replay
    else (if bytes_eq word (kind_text kinds.Run) then Some kinds.Run
    else (if bytes_eq word (kind_text kinds.Exploration) then Some kinds.Exploration
    else (if bytes_eq word (kind_text kinds.Trace) then Some kinds.Trace else None)))

-- a word without the carriage return at its end, if there is one
abbrev pub trimmed : List ℕ → List ℕ
trimmed word = if slice_index_or word (length word - 1) 0 == 13 then take (length word - 1) word else word

-- the kind that the fields of a first line name: `smp`, any version, and its word
abbrev pub kind_in : List (List ℕ) → Option TextKind
kind_in (smp ∷ version ∷ kind ∷ []) = if bytes_eq smp (codes "smp") then kind_named (trimmed kind) else None
kind_in _ = None

abbrev pub kind_at : List Line → Option TextKind
kind_at [] = None
kind_at (l ∷ ls) = kind_in (fields_of l.text)

-- the kind that the first line of a text names
abbrev pub kind_of : List ℕ → Option TextKind
kind_of text = kind_at (lines_of text)

abbrev pub mode_for : Option TextKind → Mode
mode_for (Some kinds.Run) = modes.Run
mode_for _ = modes.Replay

-- the kind of script that a text is explained as: a run where its first line says so, else a replay
abbrev pub mode_of : List ℕ → Mode
mode_of text = mode_for (kind_of text)
