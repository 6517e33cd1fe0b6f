-- What is told of the state at the end of a trace.
use Rattle.std.specs.Prelude.{ℕ, zero, suc, ◌^◌, Bool, true, false, not, ◌&&◌, ◌||◌, ◌==◌, nat_lt, if◌then◌else◌, List, length, count_by}
use Rattle.std.specs.Prelude.{slice_index_or, Option, is_none, is_err}
use Rattle.std.specs.Int.Bits.{bit_or}
use Rattle.smp_mask.specs.Mask.{has}
use Rattle.trace_model.specs.declared.call.Place.{Place}
use Rattle.trace_model.specs.declared.call.Place.TheVariants.{Free, Queue, Batch, Run}
use Rattle.trace_model.specs.declared.stop.Stop.{Stop}
use Rattle.trace_model.specs.Cpu.{CpuState, handles_nothing, is_bare}
use Rattle.trace_model.specs.State.{StateValue, cpu_at}
use Rattle.trace_model.specs.Stop.{acked_by, answer_of, first_from}
use Rattle.smp_words.specs.declared.phase.TheConstants.{OVER}

-- how many calls a CPU has queued for another, and how many of these have ended
abbrev pub queued_by : StateValue → ℕ → ℕ → ℕ
queued_by s source to = slice_index_or (cpu_at s source).queued to 0

abbrev pub ran_of : StateValue → ℕ → ℕ → ℕ
ran_of s source to = slice_index_or (cpu_at s to).ran source 0

-- how many calls are queued for a CPU
abbrev pub queue_length : StateValue → ℕ → ℕ
queue_length s cpu = length (cpu_at s cpu).queue

-- a CPU owes another an interrupt, and the least that does
abbrev pub owes : StateValue → ℕ → ℕ → Bool
owes s to source = slice_index_or (cpu_at s source).owes to false

abbrev pub owed_by : StateValue → ℕ → Option ℕ
owed_by s to = first_from (λ source. owes s to source) 0 512

-- a CPU handles an interrupt
abbrev pub is_busy : CpuState → Bool
is_busy c = is_err (handles_nothing c)

-- something is queued for a CPU
abbrev pub has_nodes : CpuState → Bool
has_nodes c = not (is_bare c)

-- a record is not free
abbrev pub is_locked : Place → Bool
is_locked Free = false
is_locked _ = true

-- how many queues are not empty, how many records are not free, and how many CPUs handle
abbrev pub heads_of : StateValue → ℕ
heads_of s = count_by has_nodes s.cpus

abbrev pub locked_of : StateValue → ℕ
locked_of s = count_by is_locked s.places

abbrev pub busy_of : StateValue → ℕ
busy_of s = count_by is_busy s.cpus

-- a stop waits for a CPU of its mask: at 0 and OVER to complete, else to acknowledge the phase
abbrev pub is_waited_for : Stop → ℕ → Bool
is_waited_for stop cpu =
    if (stop.phase == 0) || (stop.phase == OVER) then is_none (answer_of stop cpu) else nat_lt (acked_by stop cpu) stop.phase

abbrev pub waits : Stop → ℕ → Bool
waits stop cpu = has stop.task.mask cpu && is_waited_for stop cpu

-- a mask with one member more, where that is wanted
abbrev pub joined_if : Bool → ℕ → ℕ → ℕ
joined_if true mask cpu = bit_or mask (2 ^ cpu)
joined_if false mask cpu = mask

-- the mask of the CPUs below n that pass
unfoldable pub mask_below : (ℕ → Bool) → ℕ → ℕ
mask_below passes zero = 0
mask_below passes (suc n) = joined_if (passes n) (mask_below passes n) n

-- the mask of those for whom a stop waits
unfoldable pub waiting : Stop → ℕ
waiting stop = mask_below (waits stop) 32
