-- Where each record is.
use Rattle.std.specs.Prelude.{◌≡◌, ℕ, ◌<◌, Bool, false, cond, ◌==◌, List, [], ◌∷◌, count_by, Option, Some, None}
use Rattle.smp_words.specs.declared.call.Class.TheVariants.{Sync}
use Rattle.trace_model.specs.declared.call.Call.{Call}
use Rattle.trace_model.specs.declared.call.Current.{Current}
use Rattle.trace_model.specs.declared.call.Place.{Place}
use Rattle.trace_model.specs.declared.call.Place.TheVariants.{Queue, Batch, Run}
use Rattle.trace_model.specs.declared.call.Progress.{Progress}
use Rattle.trace_model.specs.declared.call.Progress.TheVariants.{Unlocked, Runs, Ended}
use Rattle.trace_model.specs.Cpu.{CpuState}
use Rattle.trace_model.specs.State.{StateValue, cpu_at, place_at}
use Rattle.trace_laws.specs.CallEvents.{only_if, same_class}

-- the call of this record
abbrev pub is_record : ℕ → Call → Bool
is_record r call = call.id == r

-- a call that a CPU runs, with a record that is locked: a SYNC call, until its record is unlocked
abbrev pub locked_at : Progress → Call → List Call
locked_at Runs call = only_if (same_class Sync call.class) call
locked_at Ended call = call ∷ []
locked_at Unlocked call = []

abbrev pub locked_with : Option Current → List Call
locked_with None = []
locked_with (Some x) = locked_at x.progress x.call

abbrev pub locked : CpuState → List Call
locked c = locked_with c.current

-- a place is the queue of a CPU, its batch, or the call that it runs
abbrev pub is_queue : Place → ℕ → Bool
is_queue (Queue d) cpu = d == cpu
is_queue _ cpu = false

abbrev pub is_batch : Place → ℕ → Bool
is_batch (Batch d) cpu = d == cpu
is_batch _ cpu = false

abbrev pub is_run : Place → ℕ → Bool
is_run (Run d) cpu = d == cpu
is_run _ cpu = false

abbrev pub one_if : Bool → ℕ
one_if test = cond test 1 0

-- how often a record is in a queue, in a batch, and locked by the call that a CPU runs
abbrev pub in_queue : ℕ → CpuState → ℕ
in_queue r c = count_by (is_record r) c.queue

abbrev pub in_batch : ℕ → CpuState → ℕ
in_batch r c = count_by (is_record r) c.batch

abbrev pub in_run : ℕ → CpuState → ℕ
in_run r c = count_by (is_record r) (locked c)

-- A CPU has a record of this place just where the place says, and once.
pub record PlacedAt (place : Place) (r cpu : ℕ) (c : CpuState) : Type 0 where
  pub queue : in_queue r c ≡ one_if (is_queue place cpu)
  pub batch : in_batch r c ≡ one_if (is_batch place cpu)
  pub run : in_run r c ≡ one_if (is_run place cpu)

-- Each record is in one place: it is free, or it is once in one queue, in one batch, or of one call that runs.
abbrev pub InOnePlace : StateValue → Type 0
InOnePlace t = (r : ℕ) → r < 65536 → (cpu : ℕ) → cpu < 512 → PlacedAt (place_at t r) r cpu (cpu_at t cpu)
