-- A text of which the lines are kept that a verdict shows.
use Rattle.std.specs.Prelude.{◌≡◌, ℕ, ◌+◌, Bool, true, false, ◌==◌, ◌||◌, if◌then◌else◌, List, [], ◌∷◌, ◌++◌, Option, Some, None}
use Rattle.smp_script.specs.Lines.{lines_of}
use Rattle.trace_judge.specs.declared.verdict.Verdict.{Verdict}
use Rattle.trace_judge.specs.declared.verdict.Verdict.TheVariants.{Lawful, Broken}
use Rattle.trace_ftrace.specs.Text.{broken_record, line_from, queue_of}
use Rattle.trace_ftrace.specs.declared.thin_text.ShownLines.{ShownLines}
use Rattle.trace_ftrace.specs.declared.thin_text.ThinText.{ThinText}
use Rattle.trace_ftrace.specs.declared.told.Told.{Told}

-- the lines of a text that a verdict on these events shows
abbrev pub lines_shown : {A : Type 0} → List Told → Verdict A → Option ShownLines
lines_shown told (Lawful events state) = None
lines_shown told (Broken line cpu e why) = Some (record { refused = line; queued = queue_of (broken_record e why) line told })

-- whether the line of this number is one of those
abbrev pub is_line : Option ℕ → ℕ → Bool
is_line None number = false
is_line (Some line) number = number == line

abbrev pub is_shown : ShownLines → ℕ → Bool
is_shown s number = number == s.refused || is_line s.queued number

-- whatever follows them, two texts have the same lines of these numbers
abbrev pub HaveSame : ShownLines → List ℕ → List ℕ → Type 0
HaveSame s text thin = (line : ℕ) → is_shown s line ≡ true → (rest : List ℕ)
    → line_from 1 line (lines_of (text ++ rest)) ≡ line_from 1 line (lines_of (thin ++ rest))

-- two texts have the same of the lines that are shown
abbrev pub ShowSame : Option ShownLines → List ℕ → List ℕ → Type 0
ShowSame None text thin = Unit {0}
ShowSame (Some s) text thin = (line : ℕ) → is_shown s line ≡ true → line_from 1 line (lines_of text) ≡ line_from 1 line (lines_of thin)

-- how many line feeds there are
abbrev pub line_feeds : List ℕ → ℕ
line_feeds [] = 0
line_feeds (b ∷ bs) = if b == 10 then line_feeds bs + 1 else line_feeds bs

-- the number is that of the line behind them
abbrev pub IsNumbered : {A : Type 0} → ThinText A → Type 0
IsNumbered t = t.number ≡ line_feeds t.text.items + 1

-- of this text these lines are kept
abbrev pub HasKept : {A : Type 0} → ShownLines → List ℕ → ThinText A → Type 0
HasKept lines text t = (t.lines ≡ lines) × HaveSame lines text t.text.items
