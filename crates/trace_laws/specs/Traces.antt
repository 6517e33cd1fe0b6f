-- Traces that the model accepts, and what they show of calls.
use Rattle.std.specs.Prelude.{◌≡◌, ℕ, ◌%◌, ◌^◌, ◌<◌, false, List, [], ◌++◌, map, count_by, IsPermutation}
use Rattle.smp_labels.specs.declared.words.LabelWords.{LabelWords}
use Rattle.smp_words.specs.declared.call.Class.{Class}
use Rattle.trace_model.specs.declared.call.Call.{Call}
use Rattle.trace_model.specs.declared.event.Event.{Event}
use Rattle.trace_model.specs.declared.without.Setting.{Setting}
use Rattle.trace_model.specs.Ending.{queued_by, ran_of}
use Rattle.trace_model.specs.Opened.{opening}
use Rattle.trace_model.specs.Runs.{Runs}
use Rattle.trace_model.specs.State.{StateValue, cpu_at}
use Rattle.trace_laws.specs.CallEvents.{Begin, begin_of, begins, calls_of, ends, id_of, queue_from, queued, taken_from}
use Rattle.trace_laws.specs.CallHistory.{held, is_from, running, waiting}

-- these events lead here, from a state in which nothing has happened
abbrev pub IsTrace : Setting → LabelWords → List (ℕ × Event) → StateValue → Type 0
IsTrace u words es t = Runs (opening u words) es t

-- what holds of each CPU of each trace
abbrev pub OfEachTrace : (Setting → List (ℕ × Event) → StateValue → ℕ → Type 0) → Type 0
OfEachTrace Law = (u : Setting) (words : LabelWords) (es : List (ℕ × Event)) (t : StateValue) → IsTrace u words es t
    → (cpu : ℕ) → cpu < 512 → Law u es t cpu

-- The calls that were queued for a CPU are those that began there and those that it still holds, in some order: each call begins
-- at most once, on its target, with its record, its function and its argument.
abbrev pub BeginOnce : Setting → List (ℕ × Event) → StateValue → ℕ → Type 0
BeginOnce u es t cpu = IsPermutation (map begin_of (queued cpu es)) (begins cpu es ++ map begin_of (held (cpu_at t cpu)))

-- the record of a call that begins
abbrev pub record_of : Begin → ℕ
record_of b = b.id

-- The calls that began on a CPU are those that ended there, in that order, and the one that runs: each ends at most once, after it
-- began, and before the next begins.
abbrev pub EndOnce : Setting → List (ℕ × Event) → StateValue → ℕ → Type 0
EndOnce u es t cpu = map record_of (begins cpu es) ≡ ends cpu es ++ map id_of (running (cpu_at t cpu))

-- the calls that a CPU has taken: at each `take` those that were queued since the one before, SYNC ones first
abbrev pub taken : ℕ → List (ℕ × Event) → List Call
taken cpu es = taken_from cpu [] es

-- the calls that were queued for a CPU since its last `take`
abbrev pub untaken : ℕ → List (ℕ × Event) → List Call
untaken cpu es = queue_from cpu [] es

-- Where the order of queues is told: calls begin in the order in which they are taken, those that are taken are in their class as
-- they were queued, and the others are in the queue.
pub record BeginInOrder (u : Setting) (es : List (ℕ × Event)) (t : StateValue) (cpu : ℕ) : Type 0 where
  pub begun : u.without.order ≡ false → map begin_of (taken cpu es) ≡ begins cpu es ++ map begin_of (waiting (cpu_at t cpu))
  pub queue : u.without.order ≡ false → (cpu_at t cpu).queue ≡ untaken cpu es
  pub classes : (class : Class) → calls_of class (taken cpu es) ++ calls_of class (untaken cpu es) ≡ calls_of class (queued cpu es)

-- The counts of a CPU are those of the events: of each source, how many calls were queued for the CPU, and how many have ended
-- there. Those that ended, the one that runs and those that are held are the calls that were queued.
pub record CountsAre (u : Setting) (es : List (ℕ × Event)) (t : StateValue) (cpu : ℕ) : Type 0 where
  pub over : List Call
  pub ends_are : map id_of over ≡ ends cpu es
  pub whole : IsPermutation (queued cpu es) ((over ++ running (cpu_at t cpu)) ++ held (cpu_at t cpu))
  pub queued_are : (source : ℕ) → source < 512 → queued_by t source cpu ≡ count_by (is_from source) (queued cpu es) % 2 ^ 64
  pub ran_are : (source : ℕ) → source < 512 → ran_of t source cpu ≡ count_by (is_from source) over % 2 ^ 64
