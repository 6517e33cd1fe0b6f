-- A CPU in a stop of one CPU: the call of its function, and its answer.
use Rattle.std.specs.Prelude.{◌≡◌, ℕ, ℤ, ◌<◌, false}
use Rattle.atomic_table.specs.Seated.{TableId}
use Rattle.smp_words.specs.Size.{cpus}
use Rattle.smp_stop_steps.specs.Threads.Known.{carrying}
use Rattle.smp_stop_steps.specs.Threads.KnownAfter.{is_drafting}
use Rattle.smp_stop_steps.specs.Start.{answer_word}
use Rattle.smp_multi.specs.Names.{One, In, Rests, KnownStops, Calls}
use Rattle.smp_multi.specs.declared.func.Called.{Called}
use Rattle.smp_multi.specs.Cells.{cells}
use Rattle.smp_multi.specs.Places.{work_in}
use Rattle.smp_multi.specs.Seat.{SeatValue}

abbrev pub called : ℕ → ℕ → ℕ → ℤ → Called
called cpu func arg answer = record { cpu = cpu; func = func; arg = arg; answer = answer }

-- the call of the function of the stop that a CPU is in
abbrev pub called_by : KnownStops → ℤ → Called
called_by v answer = called v.number (work_in v.seat).func (work_in v.seat).arg answer

-- the function and the argument are those of the stop that the CPU is in
abbrev pub IsItsCall : KnownStops → ℕ → ℕ → Type 0
IsItsCall v func arg = (func ≡ (work_in v.seat).func) × (arg ≡ (work_in v.seat).arg)

-- it has entered a stop of one CPU
pub record AtOne (table : TableId) (seat : SeatValue) (slot : ℕ) : Type 0 where
  pub table_is : seat.table ≡ table
  pub sized : table.words ≡ cells
  pub low : slot < cpus
  pub idle : is_drafting seat.known.source ≡ false
  pub seat_is : seat.known.seat ≡ In slot (work_in seat.known.seat) 0 0 Rests
  pub one : (work_in seat.known.seat).kind ≡ One

-- and has loaded what its function is called with: it calls it, with no answer yet
abbrev pub calls_now : KnownStops → KnownStops
calls_now v = record v { part = record (v.part) { calling = Calls (record { func = (work_in v.seat).func; arg = (work_in v.seat).arg; answer = 0 }) } }

-- and its function has given this answer, which it carries from its acknowledgement on
abbrev pub answered_now : ℤ → KnownStops → KnownStops
answered_now answer v = carrying (answer_word answer) (calls_now v)
