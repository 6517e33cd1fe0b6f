-- A CPU at the table: its table and what it knows, and which accesses it may make.
use Rattle.std.specs.Prelude.{◌≡◌, ℕ, true, false}
use Rattle.atomic_table.specs.Seated.{TableId}
use Rattle.smp_mask.specs.Mask.{has}
use Rattle.smp_words.specs.Access.{word_of}
use Rattle.smp_stop_steps.specs.AnswerWords.{IsI32Word}
use Rattle.smp_stop_steps.specs.Threads.Known.{fresh}
use Rattle.smp_stop_steps.specs.Labels.{patch_answer}
use Rattle.smp_stop_steps.specs.Threads.Moves.{Can, Move, Acknowledge, AcknowledgePatch, Alter, Give, Count, CountGiven}
use Rattle.smp_words.specs.declared.phase.TheConstants.{DISABLE_IRQ}
use Rattle.smp_multi.specs.Names.{Access, Load, Store, Exchange, Sub, And, KnownStops, StopSeatView, StopSetting, Cpu, Word, Slot}
use Rattle.smp_multi.specs.Names.field
use Rattle.smp_words.specs.declared.access.Access.TheVariants.{Swap}
use Rattle.smp_multi.specs.Cells.{cells, HasCell}
use Rattle.smp_multi.specs.Rule.{known}

-- the table that a CPU sits at, and what it knows
pub record SeatValue : Type 0 where
  pub table : TableId
  pub known : KnownStops

-- the seat of a CPU that has done nothing
abbrev pub fresh_seat : TableId → StopSetting → ℕ → SeatValue
fresh_seat table k n = record { table = table; known = fresh k n }

-- the seat of an online CPU, with the answer that it knows that it carries
pub record IsCpuSeat (v : StopSeatView) (carried : ℕ) : Type 0 where
  pub is : v ≡ Cpu (known v)
  pub online : has (known v).setting.online (known v).number ≡ true
  pub fits : IsI32Word carried
  pub carries : (known v).carried ≡ carried

-- what is put into a result word has the bits of an i32
abbrev pub FitsWord : Word → ℕ → Type 0
FitsWord (Slot s field.Result) x = IsI32Word x
FitsWord _ x = Unit {0}

abbrev pub IsNoResult : Word → Type 0
IsNoResult (Slot s field.Result) = ⊥
IsNoResult _ = Unit {0}

-- so does an access; a result word is loaded and stored to, and nothing else
abbrev pub Fits : Access → Type 0
Fits (Load word) = Unit {0}
Fits (Store word x) = FitsWord word x
Fits (Swap word x) = IsNoResult word
Fits (Exchange word old new) = IsNoResult word
Fits (Sub word) = IsNoResult word
Fits (And word x) = IsNoResult word

-- a step by which no call of a stop function ends, no patch is made and no stop is completed: any but the acknowledgement
-- of RUN by an active CPU, a store of a patch, and the store of an answer and the count of who has completed
abbrev pub IsApartFromRuns : KnownStops → Move → Type 0
IsApartFromRuns v (Acknowledge s w a) = a ≡ DISABLE_IRQ → has w.active v.number ≡ false
IsApartFromRuns v (AcknowledgePatch s w count made) = ⊥
IsApartFromRuns v (Alter s w count made change rest) = ⊥
IsApartFromRuns v (Give s w a l x) = ⊥
IsApartFromRuns v (Count s w a l) = ⊥
IsApartFromRuns v (CountGiven s w a x) = ⊥
IsApartFromRuns v _ = Unit {0}

-- a CPU may make this access at this table
pub record Able (table : TableId) (seat : SeatValue) (access : Access) : Type 0 where
  pub table_is : seat.table ≡ table
  pub sized : table.words ≡ cells
  pub can : Can seat.known access
  pub cell : HasCell (word_of access)
  pub fits : Fits access

-- the same of one that is apart from runs
pub record Ready (table : TableId) (seat : SeatValue) (access : Access) : Type 0 where
  pub able : Able table seat access
  pub apart : IsApartFromRuns seat.known able.can.move

-- a step from which on its CPU carries this answer: by it an active CPU has called its function at RUN, has made the patch, or
-- completes the stop and carries none
abbrev pub Ends : KnownStops → ℕ → Move → Type 0
Ends v x (Acknowledge s w a) = (a ≡ DISABLE_IRQ) × (has w.active v.number ≡ true)
Ends v x (AcknowledgePatch s w count made) = x ≡ patch_answer w count
Ends v x (Count s w a l) = x ≡ 0
Ends v x (CountGiven s w a y) = x ≡ 0
Ends v x _ = ⊥

-- a CPU may take 1 from this word at this table by such a step
pub record EndsWith (table : TableId) (seat : SeatValue) (word : Word) (answer : ℕ) : Type 0 where
  pub able : Able table seat (Sub word)
  pub ends : Ends seat.known answer able.can.move
