-- Where things are in a row of a picture, in pixels.
use Rattle.std.specs.Prelude.{ℕ, ◌+◌, ◌*◌, ◌==◌, ◌≤◌, Bool, true, false, if◌then◌else◌, min, nat_lt, List, [], ◌∷◌, ◌-◌, length, Option, Some, None}
use Rattle.std.specs.List.{list_any, slice_get}
use Rattle.view.specs.declared.element.Ends.{Ends}
use Rattle.view.specs.declared.frame.Lane.{Lane}
use Rattle.trace_events.specs.declared.rows.Row.{Row}
use Rattle.trace_events.specs.declared.rows.What.{What}
use Rattle.trace_events.specs.declared.rows.What.TheVariants.{Shown}

-- the column of an event
abbrev pub column_of : Row → ℕ
column_of row = min row.number 100000

-- an event, and no `show`, of this CPU
abbrev pub is_event : ℕ → ℕ → What → Bool
is_event cpu row_cpu Shown = false
is_event cpu row_cpu _ = row_cpu == cpu

abbrev pub is_event_of : ℕ → Row → Bool
is_event_of cpu row = is_event cpu row.cpu row.what

abbrev pub is_busy : List Row → ℕ → Bool
is_busy rows cpu = list_any (is_event_of cpu) rows

abbrev pub lane_height : Bool → ℕ
lane_height busy = if busy then 62 else 20

-- the lanes of these CPUs from this place on, each below the one before it
abbrev pub lanes_from : List Row → ℕ → List ℕ → List Lane
lanes_from rows top [] = []
lanes_from rows top (cpu ∷ cpus) =
    record { cpu = cpu; top = top; busy = is_busy rows cpu }
    ∷ lanes_from rows (min (top + lane_height (is_busy rows cpu)) 4294967295) cpus

abbrev pub top_or_0 : Option Lane → ℕ
top_or_0 None = 0
top_or_0 (Some lane) = lane.top

-- the place of the lowest lane
abbrev pub lowest_of : List Lane → ℕ
lowest_of lanes = top_or_0 (slice_get lanes (length lanes - 1))

-- the place of a CPU's lane; `low` where it has none
abbrev pub top_of : ℕ → ℕ → List Lane → ℕ
top_of low cpu [] = low
top_of low cpu (lane ∷ lanes) = if lane.cpu == cpu then lane.top else top_of low cpu lanes

-- the smaller of the two
abbrev pub within : ℕ → ℕ → ℕ
within bound n = if nat_lt n bound then n else bound

-- a row has at most 60 columns, and at most 30 where they are wide
abbrev pub FitsIn : Bool → ℕ → ℕ → Type 0
FitsIn wide first last = (last ≤ first + (if wide then 29 else 59)) × (first ≤ last)

-- the width of a column
abbrev pub step_of : Bool → ℕ
step_of wide = if wide then 28 else 14

-- the left edge of a column, none left of the first nor right of the last
abbrev pub left_of : Bool → ℕ → ℕ → ℕ → ℕ
left_of wide first last column = if wide then 52 + 28 * (within last column - first) else 52 + 14 * (within last column - first)

-- the middle of a column
abbrev pub middle_of : Bool → ℕ → ℕ → ℕ → ℕ
middle_of wide first last column = left_of wide first last column + (if wide then 14 else 7)

-- the upper edge of a CPU's lane, none below the lowest
abbrev pub upper_of : ℕ → ℕ → List Lane → ℕ → ℕ
upper_of base low lanes cpu = base + within low (top_of low cpu lanes)

-- the height of the dots of an event's CPU
abbrev pub dot_of : ℕ → ℕ → List Lane → Row → ℕ
dot_of base low lanes row = upper_of base low lanes row.cpu + 32

-- at most 8 apart
abbrev pub IsNear : ℕ → ℕ → Type 0
IsNear y dot = (y ≤ dot + 8) × (dot ≤ y + 8)

-- room for the lowest lane
abbrev pub bottom_of : ℕ → ℕ → ℕ
bottom_of base low = base + low + 62

-- an arrow between the dots at two points, and the height at which it crosses
abbrev pub arrow_ends : ℕ → ℕ → ℕ → ℕ → Ends × ℕ
arrow_ends x1 y1 x2 y2 =
    if nat_lt y1 y2 then (record { x1 = x1; y1 = y1 + 6; x2 = x2; y2 = y2 - 8 }, y1 + 28)
    else if nat_lt y2 y1 then (record { x1 = x1; y1 = y1 - 6; x2 = x2; y2 = y2 + 8 }, y2 + 28)
    else (record { x1 = x1; y1 = y1 + 6; x2 = x2; y2 = y2 + 8 }, y1 + 24)
