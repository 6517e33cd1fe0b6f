-- What opening and closing leave.
use Rattle.std.specs.Prelude.{◌≡◌, ℕ, ℤ, pos, ◌<◌, ◌≤◌, Bool, true, false, Option, None, Some, List, Result, Ok, Err, length, slice_index_or}
use Rattle.std.specs.Global.{Global}
use Rattle.std.specs.declared.boxed.Box.{Box}
use Rattle.smp_mask.specs.Mask.{has}
use Rattle.smp_mask.specs.declared.error.SmpError.{SmpError}
use Rattle.smp_mask.specs.declared.error.SmpError.TheVariants as error
use Rattle.smp_labels.specs.Labels.{AreLabels, Labels}
use Rattle.smp_words.specs.Limits.{AreLimits}
use Rattle.smp_queue.specs.Cpu.{BootValue, TableValue, fresh_cpu, is_left}
use Rattle.smp_multi.specs.Cpu.{BootValue as StopBootValue, TableValue as StopTableValue, fresh_cpu as fresh_stop, is_left as is_left_stop}
use Rattle.smp_tables_c.specs.SeatValue.{SeatValue}
use Rattle.smp_tables_c.specs.Status.{closed, status_of}
use Rattle.smp_tables_c.specs.declared.place.CpuPlace.TheVariants.{Out}
use Rattle.smp_tables_c.specs.declared.handle.SmpCpu.{SmpCpu}

-- the seat of a CPU of these tables that has done nothing
abbrev pub fresh_seat : TableValue → StopTableValue → ℕ → SeatValue
fresh_seat calls stops cpu =
    record { calls = calls; stops = stops; place = Out (fresh_cpu calls cpu) (fresh_stop stops.table stops.setting cpu); slot = 0 }

-- a CPU that is online has its fresh seat, and no other CPU has one
abbrev pub IsSeatOf : TableValue → StopTableValue → ℕ → Bool → Option (Box SeatValue Global) → Type 0
IsSeatOf calls stops cpu true (Some b) = b.value ≡ fresh_seat calls stops cpu
IsSeatOf calls stops cpu false None = Unit {0}
IsSeatOf calls stops cpu _ _ = ⊥

-- these are the seats of the CPUs below nr
abbrev pub HasSeats : TableValue → StopTableValue → ℕ → ℕ → List (Option (Box SeatValue Global)) → Type 0
HasSeats calls stops nr online seats =
    (length seats ≡ nr) × ((cpu : ℕ) → cpu < nr → IsSeatOf calls stops cpu (has online cpu) (slice_index_or seats cpu None))

-- the CPU of this number was not given out yet; nor was one that is online, from n on
abbrev pub IsLeft : BootValue → StopBootValue → ℕ → Type 0
IsLeft calls stops cpu = (is_left calls cpu ≡ true) × (is_left_stop stops cpu ≡ true)

abbrev pub AreLeft : ℕ → ℕ → BootValue → StopBootValue → Type 0
AreLeft n online calls stops = (cpu : ℕ) → n ≤ cpu → has online cpu ≡ true → IsLeft calls stops cpu

-- a handle that a seat was put in, where there was one
abbrev pub PutIn : Option (Box SeatValue Global) → SmpCpu → SmpCpu → Type 0
PutIn None old new = new ≡ old
PutIn (Some b) old new = new.held.seat ≡ Some b.value

-- in each handle the seat of its place was put, where there was one
abbrev pub IsFilled : List (Option (Box SeatValue Global)) → List SmpCpu → List SmpCpu → Type 0
IsFilled seats old new =
    (length new ≡ length old)
    × ((c : ℕ) (d : SmpCpu) → c < length seats → PutIn (slice_index_or seats c None) (slice_index_or old c d) (slice_index_or new c d))
    × ((c : ℕ) (d : SmpCpu) → length seats ≤ c → slice_index_or new c d ≡ slice_index_or old c d)

-- the handle of a CPU that is online has its fresh seat, and another is as it was
abbrev pub OpenedAt : TableValue → StopTableValue → ℕ → Bool → SmpCpu → SmpCpu → Type 0
OpenedAt calls stops cpu true old new = new.held.seat ≡ Some (fresh_seat calls stops cpu)
OpenedAt calls stops cpu false old new = new ≡ old

-- there can be tables of these CPUs with these labels, and there is a handle for each
pub record CanOpen (nr online : ℕ) (labels : Labels) (old : List SmpCpu) : Type 0 where
  pub room : nr ≤ length old
  pub limits : AreLimits nr online
  pub are_labels : AreLabels labels.keys labels.entries

-- two tables of these CPUs with just these labels, whose CPUs have done nothing: all that are online have their handles
pub record Opened (nr online : ℕ) (labels : Labels) (old new : List SmpCpu) : Type 0 where
  pub can : CanOpen nr online labels old
  pub sized : length new ≡ length old
  pub calls : TableValue
  pub stops : StopTableValue
  pub calls_are : (calls.nr ≡ nr) × (calls.online ≡ online)
  pub stops_are : (stops.nr ≡ nr) × (stops.setting ≡ record { online = online; labels = labels })
  pub opened : (c : ℕ) (d : SmpCpu) → c < nr → OpenedAt calls stops c (has online c) (slice_index_or old c d) (slice_index_or new c d)
  pub others : (c : ℕ) (d : SmpCpu) → nr ≤ c → slice_index_or new c d ≡ slice_index_or old c d

-- E4 where there can be no such tables; where there can, memory was refused
abbrev pub RefusesOpen : ℕ → ℕ → Labels → List SmpCpu → SmpError → Type 0
RefusesOpen nr online labels old error.BadArgument = ¬ (CanOpen nr online labels old)
RefusesOpen nr online labels old error.NoMemory = ¬ (¬ (CanOpen nr online labels old))
RefusesOpen nr online labels old _ = ⊥

-- open: all are opened, or it is refused and nothing is changed
abbrev pub OpenAnswers : ℕ → ℕ → Labels → List SmpCpu → List SmpCpu → Result Unit SmpError → Type 0
OpenAnswers nr online labels old new (Ok u) = Opened nr online labels old new
OpenAnswers nr online labels old new (Err e) = RefusesOpen nr online labels old e × (new ≡ old)

abbrev pub Opens : ℕ → ℕ → Labels → ℤ → List SmpCpu → List SmpCpu → Type 0
Opens nr online labels r old new = (answer : Result Unit SmpError) × OpenAnswers nr online labels old new answer × (r ≡ status_of answer)

-- close: the handle is closed, and its seat was let go
abbrev pub Closes : ℤ → Option SeatValue → Option SeatValue → Type 0
Closes r None new = (r ≡ closed) × (new ≡ None)
Closes r (Some s) new = (r ≡ pos 0) × (new ≡ None)
