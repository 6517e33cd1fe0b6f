-- The events around a line of a text.
use Rattle.std.specs.Prelude.{ℕ, ◌+◌, ◌-◌, ◌≤◌, Bool, true, false, nat_le, nat_lt, if◌then◌else◌, min, List, [], ◌∷◌, take, drop, length}
use Rattle.std.specs.Prelude.{Option, Some, None}
use Rattle.smp_script.specs.Lines.{lines_of}
use Rattle.trace_ftrace.specs.declared.told.Told.{Told}
use Rattle.trace_page.specs.declared.window.Candidate.{Candidate}

-- a text has a line of this number, which counts from 1
abbrev pub HasLine : Bool → ℕ → List ℕ → Type 0
HasLine true line text = (1 ≤ line) × (line ≤ length (lines_of text))
HasLine false line text = 1 ≤ line → length (lines_of text) + 1 ≤ line

-- the better of two: an event of a line from this one on, the earlier line, and the first event of a line
abbrev pub better : Option Candidate → ℕ → Told → Option Candidate
better None i x = Some (record { place = i; line = x.line })
better (Some c) i x = if nat_le c.line x.line then Some c else Some (record { place = i; line = x.line })

abbrev pub nearer : ℕ → Option Candidate → ℕ → Told → Option Candidate
nearer line best i x = if nat_lt x.line line then best else better best i x

abbrev pub nearest_from : ℕ → Option Candidate → ℕ → List Told → Option Candidate
nearest_from line best i [] = best
nearest_from line best i (x ∷ xs) = nearest_from line (nearer line best i x) (i + 1) xs

abbrev pub place_or : ℕ → Option Candidate → ℕ
place_or last None = last
place_or last (Some c) = c.place

-- the place of the event that this line tells, or the next line that tells one; the last where there is none
abbrev pub marked_place : ℕ → List Told → ℕ
marked_place line told = place_or (length told - 1) (nearest_from line None 0 told)

-- 100 events in front of it, it, and 100 behind it, as far as there are so many
abbrev pub window_of : ℕ → List Told → List Told
window_of line told = let p = marked_place line told in drop (p - 100) (take (min (p + 101) (length told)) told)

-- its place among those
abbrev pub marked : ℕ → List Told → ℕ
marked line told = let p = marked_place line told in p - (p - 100)
