-- A CPU that makes the patch of its stop, between its load of the key and its acknowledgement of RUN.
use Rattle.std.specs.Prelude.{◌≡◌, ℕ, ◌<◌, false, List, [], ◌∷◌, ◌++◌, take, drop, map}
use Rattle.atomic_table.specs.Seated.{TableId}
use Rattle.smp_labels.specs.Entries.{entry_word}
use Rattle.smp_labels.specs.declared.words.TheConstants.{MOST_KEYS}
use Rattle.smp_words.specs.Size.{cpus}
use Rattle.smp_stop_steps.specs.Threads.Known.{setup_in}
use Rattle.smp_stop_steps.specs.Threads.KnownAfter.{counted, is_drafting}
use Rattle.smp_stop_steps.specs.Labels.{Change, count_set}
use Rattle.smp_stop_steps.specs.Sits.{IsLoaded}
use Rattle.smp_stop_steps.specs.Tells.{plan_at}
use Rattle.smp_words.specs.declared.phase.TheConstants.{DISABLE_IRQ}
use Rattle.smp_stop_steps.specs.declared.stage.Visit.{Visit}
use Rattle.smp_multi.specs.Names.{Work, StopRole, In, Alters, KnownStops, Moved}
use Rattle.smp_multi.specs.Cells.{cells}
use Rattle.smp_multi.specs.Places.{work_in}
use Rattle.smp_multi.specs.Seat.{SeatValue}
use Rattle.smp_multi.specs.Turns.{patched_with}

-- the count that it has found, the stores that are made, and those that are to be made
abbrev pub count_in : StopRole → ℕ
count_in (Alters s w count made rest) = count
count_in _ = 0

abbrev pub made_in : StopRole → List Change
made_in (Alters s w count made rest) = made
made_in _ = []

abbrev pub rest_in : StopRole → List Change
rest_in (Alters s w count made rest) = rest
rest_in _ = []

-- a CPU that makes the patch of its stop
abbrev pub IsInPatch : KnownStops → Type 0
IsInPatch v = (slot : ℕ) × (v.seat ≡ Alters slot (work_in v.seat) (count_in v.seat) (made_in v.seat) (rest_in v.seat))

-- a CPU in the patch of the stop of its visit
pub record AtPatch (table : TableId) (seat : SeatValue) (visit : Visit) : Type 0 where
  pub table_is : seat.table ≡ table
  pub sized : table.words ≡ cells
  pub low : visit.slot < cpus
  pub idle : is_drafting seat.known.source ≡ false
  pub loaded : IsLoaded visit (work_in seat.known.seat)
  pub disabled : visit.acked ≡ DISABLE_IRQ
  pub key_low : (work_in seat.known.seat).func < MOST_KEYS
  pub seat_is : seat.known.seat
      ≡ Alters visit.slot (work_in seat.known.seat) (count_in seat.known.seat) (made_in seat.known.seat) (rest_in seat.known.seat)
  pub plan_is : plan_at (setup_in seat.known.setting) (work_in seat.known.seat) (count_in seat.known.seat)
      ≡ made_in seat.known.seat ++ rest_in seat.known.seat

-- the entry words of the table
abbrev pub entries_in : KnownStops → List ℕ
entries_in v = map entry_word v.setting.labels.entries

-- it has found this count, from which its patch leads
abbrev pub begins_with : ℕ → StopRole → KnownStops → KnownStops
begins_with count (In s w a l t) v = record v { seat = Alters s w count [] (plan_at (setup_in v.setting) w count) }
begins_with count x v = v

-- by how much these stores of a patch have moved each key: the first of them is that of its key
abbrev pub moved_with : Work → ℕ → List Change → List Moved → List Moved
moved_with w count [] l = l
moved_with w count (change ∷ made) l = counted l w.func count (count_set w count)

-- it has made this number of the stores that were to be made
abbrev pub stored_to : ℕ → StopRole → KnownStops → KnownStops
stored_to i (Alters s w count made rest) v = record v {
  seat = Alters s w count (made ++ take i rest) (drop i rest);
  part = record (v.part) { patched = moved_with w count (take i rest) v.part.patched };
}
stored_to i x v = v

-- it has made all of them
abbrev pub stored_all : StopRole → KnownStops → KnownStops
stored_all (Alters s w count made rest) v = record v {
  seat = Alters s w count (made ++ rest) [];
  part = record (v.part) { patched = patched_with w count v.part.patched };
}
stored_all x v = v
