-- Where a CPU is at its table between two steps of a call: seated, free, or just inside a stop.
use Rattle.std.specs.Prelude.{◌≡◌, ℕ, ◌<◌, Bool, true, false, Option, Some, None}
use Rattle.atomic_table.specs.Seated.{TableId}
use Rattle.smp_mask.specs.Mask.{has}
use Rattle.smp_words.specs.Size.{cpus}
use Rattle.smp_stop_steps.specs.Threads.Known.{attempting, noting, stepped}
use Rattle.smp_stop_steps.specs.Threads.KnownAfter.{is_drafting, no_work}
use Rattle.smp_stop_steps.specs.Sits.{IsLoaded}
use Rattle.smp_stop_steps.specs.declared.stage.Visit.{Visit}
use Rattle.smp_multi.specs.Names.{Work, StopRole, Free, In, Gives, Alters, Rests, Source, Owns, Collects, KnownStops}
use Rattle.smp_multi.specs.Names.own
use Rattle.smp_multi.specs.Cells.{cells}
use Rattle.smp_multi.specs.Seat.{SeatValue}

-- the seat of the CPU of this number, which begins no stop
pub record IsSeated (table : TableId) (seat : SeatValue) (number : ℕ) : Type 0 where
  pub table_is : seat.table ≡ table
  pub sized : table.words ≡ cells
  pub number_is : seat.known.number ≡ number
  pub below : number < cpus
  pub idle : is_drafting seat.known.source ≡ false

-- it is in no stop
pub record IsFree (table : TableId) (seat : SeatValue) (number : ℕ) : Type 0 where
  pub seated : IsSeated table seat number
  pub free : seat.known.seat ≡ Free

-- a CPU that holds the gate or not
abbrev pub holding : Bool → KnownStops → KnownStops
holding b v = record v { part = record (v.part) { holds = b } }

-- one that has tried the gate, and has taken it or not; and one that has given it up
abbrev pub tried : Bool → KnownStops → KnownStops
tried true v = stepped 1 (noting own.Took (holding true v))
tried false v = stepped 1 (noting own.Busy v)

abbrev pub given_up : KnownStops → KnownStops
given_up v = stepped 1 (noting own.Gave (holding false v))

-- one that has entered the stop of this slot, which is this work; and one that has looked for it on the roll in vain, at that one step
abbrev pub entered : ℕ → Work → KnownStops → KnownStops
entered slot work v = stepped 1 (attempting slot true (record v { seat = In slot work 0 0 Rests }))

abbrev pub missed : ℕ → KnownStops → KnownStops
missed slot v = stepped 1 (attempting slot false v)

pub record HasEntered (table : TableId) (seat : SeatValue) (slot : ℕ) (work : Work) : Type 0 where
  pub table_is : seat.table ≡ table
  pub sized : table.words ≡ cells
  pub low : slot < cpus
  pub seat_is : seat.known.seat ≡ In slot work 0 0 Rests

-- the work of a source's own stop that is not collected
abbrev pub pending_of : Source → Option Work
pending_of (Owns w) = Some w
pending_of (Collects w) = Some w
pending_of _ = None

-- a stop of this work, in this slot, calls the CPU; in the CPU's own slot it is its own stop
pub record IsCalled (v : KnownStops) (slot : ℕ) (work : Work) : Type 0 where
  pub member : has work.mask v.number ≡ true
  pub own : slot ≡ v.number → pending_of v.source ≡ Some work

-- what is loaded of the stop that was entered
pub record IsVisitOf (slot : ℕ) (work : Work) (visit : Visit) : Type 0 where
  pub loaded : IsLoaded visit work
  pub slot_is : visit.slot ≡ slot
  pub fresh : visit.acked ≡ 0

-- the work of the stop that a CPU is in
abbrev pub work_in : StopRole → Work
work_in (In s w a l t) = w
work_in (Gives s w a x) = w
work_in (Alters s w count made rest) = w
work_in _ = no_work
