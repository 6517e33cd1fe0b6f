-- The rule of the table: its words show calls, of which each seat knows its CPU's part.
use Rattle.std.specs.Prelude.{◌≡◌, ℕ, zero, suc, ◌+◌, ◌<◌, ◌≤◌, true, false, if◌then◌else◌, length}
use mathlib.Core.Option.{some}
use lib.ListN.{get_elem?}
use Rattle.atomic_table.specs.Table.{State}
use Rattle.smp_mask.specs.Mask.{has}
use Rattle.smp_words.specs.Size.{cpus}
use Rattle.smp_call_steps.specs.Calls.{CallState}
use Rattle.smp_call_steps.specs.Stages.{ControlValue}
use Rattle.smp_call_steps.specs.Reached.{IsReached}
use Rattle.smp_call_steps.specs.Shows.{Shows}
use Rattle.smp_call_steps.specs.Threads.Known.{Sees, Lives, fresh, noted_known}
use Rattle.smp_queue.specs.Names.{Word, Head, Intr, KnownCalls, CallSetting, CallSeatView, Maker, New, Cpu}
use Rattle.smp_queue.specs.Cells.{cells, number_in}

-- what a seat's CPU knows
abbrev pub known : CallSeatView → KnownCalls
known (Maker n k) = fresh k n
known (New n k) = fresh k n
known (Cpu v) = v

-- what a seat's table is made with
abbrev pub made_with : CallSeatView → CallSetting
made_with (Maker n k) = k
made_with (New n k) = k
made_with (Cpu v) = v.setting

-- the least number from n to n + k that a mask has, where one of them has it
unfoldable pub next_from : ℕ → ℕ → ℕ → ℕ
next_from zero mask n = n
next_from (suc k) mask n = if has mask n then n else next_from k mask (n + 1)

-- the next CPU online from a number on
abbrev pub next_online : CallSetting → ℕ → ℕ
next_online k n = next_from cpus k.online n

-- the first seat after it has made one for the next CPU online
abbrev pub after : CallSeatView → CallSeatView
after (Maker n k) = Maker (next_online k n + 1) k
after v = v

-- the seat that it makes
abbrev pub seat_made : CallSeatView → CallSeatView
seat_made (Maker n k) = New (next_online k n) k
seat_made v = v

-- the seat of a CPU that has noted a direct call
abbrev pub noted : CallSeatView → CallSeatView
noted v = Cpu (noted_known (known v))

-- the first seat has come to a number: the CPUs below it that are online have a seat
abbrev pub HasComeTo : CallSeatView → CallSetting → ℕ → Type 0
HasComeTo maker k n = (m : ℕ) × (maker ≡ Maker m k) × (m ≤ n) × ((cpu : ℕ) → m ≤ cpu → cpu < n → has k.online cpu ≡ false)

-- a seat whose CPU has made a step
abbrev pub HasBegun : CallSeatView → Type 0
HasBegun (Cpu v) = Unit {0}
HasBegun _ = ⊥

-- no seat's CPU has made a step
abbrev pub NoneHasBegun : {S : Type 0} → State S CallSeatView → Type 0
NoneHasBegun s = (id : ℕ) (v : CallSeatView) → get_elem? s.views id ≡ some v → HasBegun v → ⊥

-- a CPU's head is nil, and no interrupt is pending there
abbrev pub IsQuiet : (Word → ℕ) → ℕ → Type 0
IsQuiet at cpu = (at (Head cpu) ≡ 0) × (at (Intr cpu) ≡ 0)

-- a seat knows its CPU's part of the calls, no other seat is of that CPU, and it is online
abbrev pub SeatKnows : CallSetting → CallState → (ℕ → ControlValue) → (ℕ → ℕ) → ℕ → ℕ → CallSeatView → Type 0
SeatKnows k a control seat next id (Maker n j) = (n ≡ next) × (id ≡ 0) × (j ≡ k)
SeatKnows k a control seat next id (New n j) = (n < next) × (seat n ≡ id) × (j ≡ k) × Sees a control (fresh j n) × (has k.online n ≡ true)
SeatKnows k a control seat next id (Cpu v) = (v.number < next) × (seat v.number ≡ id) × (v.setting ≡ k) × Sees a control v × (has k.online v.number ≡ true)

-- the words show some calls that are reached; each seat knows its part; only CPUs of the table that are online have a seat, and
-- those with none have done nothing; until a CPU makes a step all words are 0, and nobody queues a call for a CPU that is not
-- online, or sends it an interrupt
pub record Ruled {S : Type 0} (k : CallSetting) (s : State S CallSeatView) : Type 0 where
  pub calls : CallState
  pub reached : IsReached calls (number_in s.words)
  pub controls : ℕ → ControlValue
  pub seat : ℕ → ℕ
  pub next : ℕ
  pub few : next ≤ k.nr
  pub wide : length s.words ≡ cells
  pub shown : Shows calls (number_in s.words) controls
  pub each_seat : (id : ℕ) (v : CallSeatView) → get_elem? s.views id ≡ some v → SeatKnows k calls controls seat next id v
  pub absent : (cpu : ℕ) → (has k.online cpu ≡ true → next ≤ cpu) → Sees calls controls (fresh k cpu)
  pub unused : NoneHasBegun s → (word : Word) → number_in s.words word ≡ 0
  pub quiet : (cpu : ℕ) → has k.online cpu ≡ false → IsQuiet (number_in s.words) cpu

-- some words show some calls that are reached, of which a CPU of the table that is online knows its part; CPUs that the table
-- does not have, and those that are not online, have done nothing; nothing is queued or pending for those that are not online
pub record SeatInvariant (v : KnownCalls) : Type 0 where
  pub lives : Lives v
  pub below : v.number < v.setting.nr
  pub online : has v.setting.online v.number ≡ true
  pub absent : (cpu : ℕ) → v.setting.nr ≤ cpu → Sees lives.calls lives.controls (fresh v.setting cpu)
  pub offline : (cpu : ℕ) → has v.setting.online cpu ≡ false → Sees lives.calls lives.controls (fresh v.setting cpu)
  pub quiet : (cpu : ℕ) → has v.setting.online cpu ≡ false → IsQuiet lives.at cpu
