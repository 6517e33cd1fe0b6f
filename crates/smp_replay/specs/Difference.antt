-- The first line in which two texts differ.
use Rattle.std.specs.Prelude.{◌≡◌, ◌≢◌, ℕ, ◌+◌, ◌-◌, ◌<◌, ◌≤◌, ◌==◌, ◌⊎◌, if◌then◌else◌, List, [], ◌∷◌, ◌++◌, take, drop, slice_index_or, codes}
use Rattle.std.specs.Fmt.{decimal}
use Rattle.std.specs.List.{count_by}
use Rattle.smp_script.specs.Lines.{Line, lines_of}
use Rattle.smp_replay.specs.declared.difference.Difference.{Difference}

-- the number of the line that the byte at this place is of, counted from 1
abbrev pub line_at : List ℕ → ℕ → ℕ
line_at text at = 1 + count_by (λ b. b == 10) (take at text)

-- the line of the byte at this place starts there: a line feed or nothing is in front of it, and no line feed between
pub record StartsLine (text : List ℕ) (start at : ℕ) : Type 0 where
  pub before : start ≤ at
  pub first : (start ≡ 0) ⊎ (slice_index_or text (start - 1) 0 ≡ 10)
  pub none : (k : ℕ) → start ≤ k → k < at → slice_index_or text k 0 ≢ 10

-- Two texts are the same up to a place and differ there: no byte is 256, which marks the end. It is in this line.
pub record DiffersFirst (one two : List ℕ) (d : Difference) : Type 0 where
  pub same : take d.at one ≡ take d.at two
  pub differs : slice_index_or one d.at 256 ≢ slice_index_or two d.at 256
  pub line : d.line ≡ line_at one d.at
  pub start : StartsLine one d.start d.at

-- the line at the front of what a text has left
abbrev pub side_text : List ℕ → List Line → List ℕ
side_text name [] = name ++ codes " has ended\n"
side_text name (l ∷ ls) = name ++ codes ": " ++ l.text ++ (if l.ended then codes "\n" else codes " (cut)\n")

-- which line differs
abbrev pub number_text : ℕ → List ℕ
number_text line = codes "line " ++ decimal line ++ codes " differs\n"

-- what is printed of a difference
abbrev pub difference_text : Difference → List ℕ → List ℕ → List ℕ
difference_text d one two =
    number_text d.line ++ side_text (codes "machine") (lines_of (drop d.start one)) ++ side_text (codes "trace") (lines_of (drop d.start two))
