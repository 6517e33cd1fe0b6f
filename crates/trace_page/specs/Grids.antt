-- Where the events of a picture are: rows of 30 columns, and in each row the same lanes.
use Rattle.std.specs.Prelude.{ℕ, ◌+◌, ◌-◌, ◌*◌, ◌/◌, ◌==◌, Bool, true, if◌then◌else◌, List, [], ◌∷◌, ◌++◌, length, zero, suc}
use Rattle.std.specs.List.{list_any}
use Rattle.trace_ftrace.specs.declared.told.Told.{Told}
use Rattle.view.specs.Frame.{left_of, upper_of}
use Rattle.view.specs.declared.frame.Lane.{Lane}

abbrev pub has_event : ℕ → List Told → Bool
has_event cpu events = list_any (λ x. x.cpu == cpu) events

-- the lanes of the CPUs below this one that have an event, each below the one before it
abbrev pub with_lane : Bool → ℕ → List Lane → List Lane
with_lane has cpu lanes = if has then lanes ++ record { cpu = cpu; top = 62 * length lanes; busy = true } ∷ [] else lanes

unfoldable pub lanes_below : List Told → ℕ → List Lane
lanes_below events zero = []
lanes_below events (suc n) = with_lane (has_event n events) n (lanes_below events n)

-- the place of the lowest lane
abbrev pub low_of : List Lane → ℕ
low_of lanes = 62 * (length lanes - 1)

-- the first column of an event's row, and the upper edge of the row
abbrev pub first_of : ℕ → ℕ
first_of number = number / 30 * 30

abbrev pub base_of : ℕ → ℕ → ℕ
base_of low number = 112 + number / 30 * (low + 96)

-- the middle of an event's column, and the height of its dot
abbrev pub x_of : ℕ → ℕ
x_of number = left_of true (first_of number) (first_of number + 29) number + 14

abbrev pub y_of : ℕ → List Lane → ℕ → ℕ → ℕ
y_of low lanes number cpu = upper_of (base_of low number) low lanes cpu + 32
