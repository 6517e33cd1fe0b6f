-- The calls of one CPU, and what events tell of them.
use Rattle.std.specs.Prelude.{◌≡◌, ℕ, ◌+◌, ◌%◌, ◌^◌, ◌<◌, Bool, true, false, ◌==◌, List, [], ◌∷◌, ◌++◌, map, length, count_by, slice_index_or, Option}
use Rattle.std.specs.Prelude.{Some, None, IsPermutation}
use Rattle.trace_model.specs.declared.call.Call.{Call}
use Rattle.trace_model.specs.declared.call.Current.{Current}
use Rattle.trace_model.specs.declared.call.Progress.{Progress}
use Rattle.trace_model.specs.declared.call.Progress.TheVariants.{Unlocked, Runs}
use Rattle.trace_model.specs.declared.event.Event.{Event}
use Rattle.trace_model.specs.Cpu.{CpuState}
use Rattle.trace_model.specs.State.{StateValue, cpu_at}
use Rattle.trace_laws.specs.CallEvents.{begin_of, begins, ends, id_of, notes, queue_from, queue_next, queued, taken_from, taken_now}

-- the call whose function runs
abbrev pub running_at : Progress → Call → List Call
running_at Runs call = call ∷ []
running_at _ call = []

abbrev pub running_with : Option Current → List Call
running_with None = []
running_with (Some x) = running_at x.progress x.call

abbrev pub running : CpuState → List Call
running c = running_with c.current

-- a call that is unlocked, and whose function has not begun
abbrev pub unlocked_at : Progress → Call → List Call
unlocked_at Unlocked call = call ∷ []
unlocked_at _ call = []

abbrev pub unlocked_with : Option Current → List Call
unlocked_with None = []
unlocked_with (Some x) = unlocked_at x.progress x.call

-- the calls that a CPU has taken, and whose functions have not begun
abbrev pub waiting : CpuState → List Call
waiting c = unlocked_with c.current ++ c.batch

-- all calls of a CPU whose functions have not begun
abbrev pub held : CpuState → List Call
held c = waiting c ++ c.queue

-- a call was queued by this CPU
abbrev pub is_from : ℕ → Call → Bool
is_from source call = call.source == source

-- how many calls of a source have ended on a CPU, as it counts them
abbrev pub ran_at : CpuState → ℕ → ℕ
ran_at c source = slice_index_or c.ran source 0

-- how many calls a CPU has queued for another, as it counts them
abbrev pub queued_at : CpuState → ℕ → ℕ
queued_at c to = slice_index_or c.queued to 0

abbrev pub is_to : ℕ → ℕ → Bool
is_to to other = other == to

-- A CPU goes from one state to another: these calls are queued for it, it takes its queue or not, these begin, these end, and it
-- queues calls for these CPUs.
pub record Shows (told : Bool) (queued : List Call) (takes : Bool) (began over : List Call) (notes : List ℕ) (a b : CpuState) : Type 0 where
  pub one_at_a_time : running a ++ began ≡ over ++ running b
  pub each_once : IsPermutation (held a ++ queued) (began ++ held b)
  pub in_order : told ≡ true → waiting a ++ taken_now takes a.queue ≡ began ++ waiting b
  pub queue_is : told ≡ true → b.queue ≡ queue_next takes a.queue queued
  pub long : length b.ran ≡ length a.ran
  pub tally : (source n : ℕ) → source < length a.ran → ran_at a source ≡ n % 2 ^ 64
      → ran_at b source ≡ (n + count_by (is_from source) over) % 2 ^ 64
  pub long_queued : length b.queued ≡ length a.queued
  pub noted : (to n : ℕ) → to < length a.queued → queued_at a to ≡ n % 2 ^ 64 → queued_at b to ≡ (n + count_by (is_to to) notes) % 2 ^ 64

-- The events of a run show the calls of a CPU, from one state to another.
pub record CallsShown (cpu : ℕ) (es : List (ℕ × Event)) (s t : StateValue) : Type 0 where
  -- the calls that began on the CPU, and those that ended
  pub began : List Call
  pub over : List Call
  pub begins_are : map begin_of began ≡ begins cpu es
  pub ends_are : map id_of over ≡ ends cpu es
  -- one call runs at a time, to its end
  pub one_at_a_time : running (cpu_at s cpu) ++ began ≡ over ++ running (cpu_at t cpu)
  -- each call that was queued for it has begun, once, or is held
  pub each_once : IsPermutation (held (cpu_at s cpu) ++ queued cpu es) (began ++ held (cpu_at t cpu))
  -- calls begin in the order of the queues that were taken
  pub in_order : s.setting.without.order ≡ false → waiting (cpu_at s cpu) ++ taken_from cpu (cpu_at s cpu).queue es ≡ began ++ waiting (cpu_at t cpu)
  pub queue_is : s.setting.without.order ≡ false → (cpu_at t cpu).queue ≡ queue_from cpu (cpu_at s cpu).queue es
  pub long : length (cpu_at t cpu).ran ≡ length (cpu_at s cpu).ran
  pub tally : (source n : ℕ) → source < length (cpu_at s cpu).ran → ran_at (cpu_at s cpu) source ≡ n % 2 ^ 64
      → ran_at (cpu_at t cpu) source ≡ (n + count_by (is_from source) over) % 2 ^ 64
  pub long_queued : length (cpu_at t cpu).queued ≡ length (cpu_at s cpu).queued
  pub noted : (to n : ℕ) → to < length (cpu_at s cpu).queued → queued_at (cpu_at s cpu) to ≡ n % 2 ^ 64
      → queued_at (cpu_at t cpu) to ≡ (n + count_by (is_to to) (notes cpu es)) % 2 ^ 64
