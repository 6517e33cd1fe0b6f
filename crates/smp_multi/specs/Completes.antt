-- A CPU that completes a stop.
use Rattle.std.specs.Prelude.{◌≡◌, ◌≢◌, ℕ, ◌<◌, ◌==◌, false, cond}
use Rattle.atomic_table.specs.Seated.{TableId}
use Rattle.smp_words.specs.Size.{cpus}
use Rattle.smp_stop_steps.specs.Threads.Known.{stepped}
use Rattle.smp_stop_steps.specs.Threads.KnownAfter.{is_drafting}
use Rattle.smp_stop_steps.specs.Threads.Moves.{IsThrough}
use Rattle.smp_multi.specs.Names.{Work, One, StopRole, Free, In, Gives, Closes, Rests, KnownStops, Idle}
use Rattle.smp_multi.specs.Places.{work_in}
use Rattle.smp_multi.specs.Cells.{cells}
use Rattle.smp_multi.specs.Seat.{SeatValue}
use Rattle.smp_multi.specs.StepCounts.{giving}

-- it is through all phases of its stop, of which it has acknowledged this one last, and has not completed
pub record AtEnd (table : TableId) (seat : SeatValue) (slot acked : ℕ) : Type 0 where
  pub table_is : seat.table ≡ table
  pub sized : table.words ≡ cells
  pub low : slot < cpus
  pub idle : is_drafting seat.known.source ≡ false
  pub seat_is : seat.known.seat ≡ In slot (work_in seat.known.seat) acked acked Rests
  pub through : IsThrough (work_in seat.known.seat) acked

-- its answer is in the result word where it is not 0
abbrev pub answered : ℕ → Work → ℕ → ℕ → StopRole
answered slot work acked x = cond (x == 0) (In slot work acked acked Rests) (Gives slot work acked x)

abbrev pub given : ℕ → ℕ → ℕ → KnownStops → KnownStops
given slot acked x v = stepped (giving x) (record v { seat = answered slot (work_in v.seat) acked x })

pub record AtGiven (table : TableId) (seat : SeatValue) (slot acked x : ℕ) (work : Work) : Type 0 where
  pub table_is : seat.table ≡ table
  pub sized : table.words ≡ cells
  pub low : slot < cpus
  pub idle : is_drafting seat.known.source ≡ false
  pub seat_is : seat.known.seat ≡ answered slot work acked x
  pub through : IsThrough work acked
  pub calls : work.kind ≡ One → seat.known.part.calling ≢ Idle

-- it has counted itself, as the last of all or not
pub record AtClose (table : TableId) (seat : SeatValue) (slot found : ℕ) : Type 0 where
  pub table_is : seat.table ≡ table
  pub sized : table.words ≡ cells
  pub low : slot < cpus
  pub idle : is_drafting seat.known.source ≡ false
  pub seat_is : seat.known.seat ≡ cond (found == 1) (Closes slot) Free

-- it is in no stop
abbrev pub left : KnownStops → KnownStops
left v = record v { seat = Free }
