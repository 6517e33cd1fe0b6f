-- A CPU inside a stop of several CPUs: where it is in a turn, and what it knows after it.
use Rattle.std.specs.Prelude.{◌≡◌, ℕ, ◌<◌, ◌==◌, true, false}
use Rattle.atomic_table.specs.Seated.{TableId}
use Rattle.smp_mask.specs.Mask.{has}
use Rattle.smp_words.specs.Size.{cpus}
use Rattle.smp_stop_steps.specs.Threads.Known.{Sees, setup_in}
use Rattle.smp_stop_steps.specs.Threads.KnownAfter.{is_drafting, looked_known, looked_to, ran_since, read_since}
use Rattle.smp_stop_steps.specs.Promises.{RunsAlone}
use Rattle.smp_stop_steps.specs.Shows.{StopShows}
use Rattle.smp_stop_steps.specs.Sits.{IsLoaded}
use Rattle.smp_stop_steps.specs.State.{StopState}
use Rattle.smp_words.specs.declared.phase.TheConstants.{DISABLE_IRQ, RUN, EXIT}
use Rattle.smp_stop_steps.specs.declared.stage.Visit.{Visit}
use Rattle.smp_multi.specs.Names.{Word, Kind, StopRole, In, Rests, Duty, Source, KnownStops}
use Rattle.smp_multi.specs.Cells.{cells}
use Rattle.smp_multi.specs.Places.{work_in}
use Rattle.smp_multi.specs.Seat.{SeatValue}

-- a CPU in the stop of its visit, where it has looked at this phase, with this to do for the next one
pub record AtTurn (table : TableId) (seat : SeatValue) (visit : Visit) (looked : ℕ) (duty : Duty) : Type 0 where
  pub table_is : seat.table ≡ table
  pub sized : table.words ≡ cells
  pub low : visit.slot < cpus
  pub idle : is_drafting seat.known.source ≡ false
  pub loaded : IsLoaded visit (work_in seat.known.seat)
  pub seat_is : seat.known.seat ≡ In visit.slot (work_in seat.known.seat) visit.acked looked duty

-- it has looked at RUN, and is to call the function of its stop, which is of this kind
pub record AtRun (table : TableId) (seat : SeatValue) (visit : Visit) (kind : Kind) : Type 0 where
  pub at : AtTurn table seat visit RUN Rests
  pub disabled : visit.acked ≡ DISABLE_IRQ
  pub kind_is : visit.kind ≡ kind
  pub active : has visit.active seat.known.number ≡ true

-- as long as the CPU knows this, whatever the words are: it is of the mask, the phase is RUN, and every CPU of the mask
-- has acknowledged DISABLE_IRQ, and has its interrupts off
abbrev pub AloneWhile : KnownStops → ℕ → Type 0
AloneWhile v slot = (p : StopState) (at : Word → ℕ) (seat : ℕ → StopRole) (source : ℕ → Source) → StopShows (setup_in v.setting) p at seat source →
    Sees p seat source v → RunsAlone p slot v.number

-- it has acknowledged the phase that it looked at, and has stored the next one where it was the last to do so
abbrev pub passed_by : StopRole → KnownStops → KnownStops
passed_by (In s w a l t) v = record v { seat = In s w l l Rests; part = ran_since (l == RUN) (read_since (l == EXIT) s w v) }
passed_by x v = v

-- it has looked at this phase, and acknowledged it
abbrev pub passed_known : ℕ → KnownStops → KnownStops
passed_known p v = passed_by (looked_to p v.seat) (looked_known p v)
