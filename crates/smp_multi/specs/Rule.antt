-- The rule of the table: its words show stops that are reached, of which each seat knows its CPU's part.
use Rattle.std.specs.Prelude.{◌≡◌, ℕ, ◌+◌, ◌<◌, ◌≤◌, length}
use mathlib.Core.Option.{some}
use lib.ListN.{get_elem?}
use Rattle.atomic_table.specs.Table.{State}
use Rattle.smp_words.specs.Size.{cpus}
use Rattle.smp_stop_steps.specs.Threads.Known.{Sees, fresh, setup_in}
use Rattle.smp_stop_steps.specs.Reached.{IsReached}
use Rattle.smp_stop_steps.specs.Shows.{StopShows}
use Rattle.smp_stop_steps.specs.State.{StopState}
use Rattle.smp_multi.specs.Names.{StopRole, Source, KnownStops, StopSetting, StopSeatView, Maker, Cpu}
use Rattle.smp_multi.specs.Cells.{cells, number_in}
use Rattle.smp_multi.specs.Lives.{StaysWithin}

-- what a seat's CPU knows
abbrev pub known : StopSeatView → KnownStops
known (Maker n k) = fresh k n
known (Cpu v) = v

-- what a seat's table is made with
abbrev pub made_with : StopSeatView → StopSetting
made_with (Maker n k) = k
made_with (Cpu v) = v.setting

-- the first seat after it has made one for the next CPU
abbrev pub after : StopSeatView → StopSeatView
after (Maker n k) = Maker (n + 1) k
after (Cpu v) = Cpu v

-- the seat that it makes
abbrev pub seat_made : StopSeatView → StopSeatView
seat_made (Maker n k) = Cpu (fresh k n)
seat_made (Cpu v) = Cpu v

-- a seat knows its CPU's part of the stops, and no other seat is of that CPU
abbrev pub SeatKnows : StopSetting → StopState → (ℕ → StopRole) → (ℕ → Source) → (ℕ → ℕ) → ℕ → ℕ → StopSeatView → Type 0
SeatKnows k p seat source place next id (Maker n j) = (n ≡ next) × (id ≡ 0) × (j ≡ k)
SeatKnows k p seat source place next id (Cpu v) = (v.number < next) × (place v.number ≡ id) × (v.setting ≡ k) × Sees p seat source v

-- the words show some stops that are reached; each seat knows its part; CPUs with no seat, and CPUs that are not online, have done nothing
pub record Ruled {S : Type 0} (k : StopSetting) (s : State S StopSeatView) : Type 0 where
  pub stops : StopState
  pub reached : IsReached (setup_in k) stops (number_in s.words)
  pub seat : ℕ → StopRole
  pub source : ℕ → Source
  pub place : ℕ → ℕ
  pub next : ℕ
  pub wide : length s.words ≡ cells
  pub shown : StopShows (setup_in k) stops (number_in s.words) seat source
  pub each_seat : (id : ℕ) (v : StopSeatView) → get_elem? s.views id ≡ some v → SeatKnows k stops seat source place next id v
  pub absent : (cpu : ℕ) → next ≤ cpu → cpu < cpus → Sees stops seat source (fresh k cpu)
  pub within : StaysWithin k stops (number_in s.words) seat source
