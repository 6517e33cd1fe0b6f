-- A source that looks for the end of its stop, and the result that it collects.
use Rattle.std.specs.Prelude.{◌≡◌, ◌≢◌, ◌⊎◌, ℕ, ◌<◌, Bool, true, false, cond, List, [], ◌∷◌, ◌++◌, slice_index_or}
use Rattle.atomic_table.specs.Seated.{TableId}
use Rattle.smp_mask.specs.Mask.{has}
use Rattle.smp_words.specs.Size.{cpus}
use Rattle.smp_stop_steps.specs.Threads.Known.{setup_in, noting, stepped}
use Rattle.smp_stop_steps.specs.Threads.KnownAfter.{no_work}
use Rattle.smp_stop_steps.specs.Laws.{IsResult}
use Rattle.smp_stop_steps.specs.Past.{OnlyActiveAnswer}
use Rattle.smp_stop_steps.specs.Shows.{StopShows}
use Rattle.smp_stop_steps.specs.State.{StopState}
use Rattle.smp_stop_steps.specs.StopLaws.{KeepsStopLaws}
use Rattle.smp_multi.specs.Names.{Word, Work, One, StopRole, Source, Shut, Owns, Collects, KnownStops}
use Rattle.smp_multi.specs.Names.own
use Rattle.smp_multi.specs.Cells.{cells}
use Rattle.smp_multi.specs.Cpu.{CpuValue}
use Rattle.smp_multi.specs.Seat.{SeatValue}

-- the work of a source's stop
abbrev pub own_work : Source → Work
own_work (Owns w) = w
own_work (Collects w) = w
own_work _ = no_work

-- a CPU of this number, with a stop of its own open
pub record IsOwner (table : TableId) (seat : SeatValue) (number : ℕ) : Type 0 where
  pub table_is : seat.table ≡ table
  pub sized : table.words ≡ cells
  pub number_is : seat.known.number ≡ number
  pub below : number < cpus
  pub owns : seat.known.source ≡ Owns (own_work seat.known.source)

-- it has found done set
pub record HasFound (table : TableId) (seat : SeatValue) (number : ℕ) : Type 0 where
  pub table_is : seat.table ≡ table
  pub sized : table.words ≡ cells
  pub number_is : seat.known.number ≡ number
  pub below : number < cpus
  pub collects : seat.known.source ≡ Collects (own_work seat.known.source)

abbrev pub looked : Bool → KnownStops → KnownStops
looked done v = stepped 1 (record v {
  source = cond done (Collects (own_work v.source)) (Owns (own_work v.source));
  moves = cond done v.moves (v.moves ++ own.NotDone ∷ []);
})

abbrev pub collected : ℕ → KnownStops → KnownStops
collected x v = stepped 1 (noting (own.Collected x) (record v { source = Shut; part = record (v.part) { collected = v.part.collected ++ x ∷ [] } }))

-- some words show stops that keep all laws: in them this CPU has begun and collected what its part says, none of its stops
-- is open, and the last answer of each CPU of the mask in its stops is this
pub record AreGiven (c : CpuValue) (mask : ℕ) (answer : ℕ → ℕ) : Type 0 where
  pub stops : StopState
  pub at : Word → ℕ
  pub seat : ℕ → StopRole
  pub source : ℕ → Source
  pub shown : StopShows (setup_in c.setting) stops at seat source
  pub laws : KeepsStopLaws (setup_in c.setting) stops at
  pub begun : stops.begun c.number ≡ c.part.begun
  pub collected : stops.collected c.number ≡ c.part.collected
  pub closed : (stops.now.stop c.number).is_open ≡ false
  pub given : (cpu : ℕ) → has mask cpu ≡ true → (before : List ℕ) × (stops.answers cpu c.number ≡ before ++ answer cpu ∷ [])

-- the CPU's last answer to a stop of its own
abbrev pub HasAnsweredItself : CpuValue → ℕ → Type 0
HasAnsweredItself c answer = (before : List ℕ) × (slice_index_or c.part.answers c.number [] ≡ before ++ answer ∷ [])

-- the result collected last is that of the stop begun last: 0 where all of its mask have answered 0, else one of the
-- answers that are not; in a stop of several CPUs those that are not active have answered 0; and where the CPU is of the mask,
-- its own answer among these is the one that it has given
pub record IsLastResult (c : CpuValue) (result : ℕ) : Type 0 where
  pub work : Work
  pub answer : ℕ → ℕ
  pub works : List Work
  pub results : List ℕ
  pub begun : c.part.begun ≡ works ++ work ∷ []
  pub collected : c.part.collected ≡ results ++ result ∷ []
  pub is_result : IsResult work.mask answer result
  pub active : OnlyActiveAnswer work answer
  pub given : AreGiven c work.mask answer
  pub own : has work.mask c.number ≡ true → HasAnsweredItself c (answer c.number)

-- a CPU that is called may give an answer that is not 0: one that is active, or any of a stop of one CPU
abbrev pub MayAnswer : Work → ℕ → Type 0
MayAnswer work cpu = (work.kind ≡ One) ⊎ (has work.active cpu ≡ true)

-- what a CPU has collected of a stop of its own agrees with its own answer: this is not 0 only where the result is not, and is
-- the result where no other CPU that was called may answer
pub record AgreesWithOwn (c : CpuValue) (work : Work) (result : ℕ) : Type 0 where
  pub own : ℕ
  pub answered : HasAnsweredItself c own
  pub some : own ≢ 0 → result ≢ 0
  pub alone : ((cpu : ℕ) → has work.mask cpu ≡ true → MayAnswer work cpu → cpu ≡ c.number) → result ≡ own

abbrev pub OwnAnswersAgree : Type 0
OwnAnswersAgree = (c : CpuValue) (result : ℕ) → (l : IsLastResult c result) → has l.work.mask c.number ≡ true → AgreesWithOwn c l.work result
