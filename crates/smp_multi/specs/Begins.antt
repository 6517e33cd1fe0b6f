-- A source that begins a stop.
use Rattle.std.specs.Prelude.{◌≡◌, ℕ, ◌<◌, ◌==◌, true, cond, [], ◌∷◌, ◌++◌}
use Rattle.atomic_table.specs.Seated.{TableId}
use Rattle.smp_words.specs.Size.{cpus}
use Rattle.smp_stop_steps.specs.Threads.Known.{setup_in, noting, told_work}
use Rattle.smp_stop_steps.specs.Sources.{IsWork}
use Rattle.smp_multi.specs.Names.{Work, Source, Shut, Drafts, Owns, KnownStops}
use Rattle.smp_multi.specs.Names.own
use Rattle.smp_multi.specs.Cells.{cells}
use Rattle.smp_multi.specs.Seat.{SeatValue}

-- with this number of fields of this work stored
abbrev pub draft_at : ℕ → Work → Source
draft_at k w = cond (k == 0) Shut (Drafts (told_work k w) k)

-- a CPU that holds the gate, and has stored this number of fields of this work in its own slot
pub record Begins (table : TableId) (seat : SeatValue) (number : ℕ) (work : Work) (k : ℕ) : Type 0 where
  pub table_is : seat.table ≡ table
  pub sized : table.words ≡ cells
  pub number_is : seat.known.number ≡ number
  pub below : number < cpus
  pub holds : seat.known.part.holds ≡ true
  pub is_work : IsWork (setup_in seat.known.setting) work
  pub drafts : seat.known.source ≡ draft_at k work

-- it has begun a stop of this work
abbrev pub begun : Work → KnownStops → KnownStops
begun w v = noting (own.Began w) (record v { source = Owns w; part = record (v.part) { begun = v.part.begun ++ w ∷ [] } })
