-- The stops that are open, as the lines of a text show them.
use Rattle.std.specs.Prelude.{ℕ, ◌+◌, ◌^◌, Bool, false, not, ◌==◌, ◌&&◌, nat_lt, if◌then◌else◌}
use Rattle.std.specs.Prelude.{List, [], ◌∷◌, Option, Some, None, is_none}
use Rattle.std.specs.Int.Bits.{bit_or}
use Rattle.smp_mask.specs.Mask.{has}
use Rattle.smp_words.specs.declared.work.Kind.TheVariants as kinds
use Rattle.trace_model.specs.Ending.{mask_below}
use Rattle.trace_model.specs.Stop.{first_from, first_of, is_kind}
use Rattle.trace_ftrace.specs.declared.kept.Mark.{Mark}
use Rattle.trace_ftrace.specs.declared.kept.Stamp.{Stamp}
use Rattle.trace_ftrace.specs.declared.sign.Sign.{Sign}
use Rattle.trace_ftrace.specs.declared.sign.Sign.TheVariants as sign
use Rattle.trace_ftrace.specs.declared.stop_sign.Opening.{Opening}
use Rattle.trace_ftrace.specs.declared.stop_sign.Opening.TheVariants as opening
use Rattle.trace_ftrace.specs.declared.stop_sign.StopSign.TheVariants as stop
use Rattle.trace_ftrace.specs.declared.stop_sign.Work.{Work}
use Rattle.trace_ftrace.specs.declared.stops.Found.{Found}
use Rattle.trace_ftrace.specs.declared.stops.OpenStop.{OpenStop}
use Rattle.trace_ftrace.specs.declared.stops.Plan.{Plan}
use Rattle.trace_ftrace.specs.declared.stops.TaskStep.{TaskStep}
use Rattle.trace_ftrace.specs.declared.stops.TaskStep.TheVariants as step
use Rattle.trace_ftrace.specs.declared.stops.Wanted.{Wanted}
use Rattle.trace_ftrace.specs.declared.stops.Wanted.TheVariants as wanted

-- a mask with one CPU more, where there can be that CPU
abbrev pub joined : ℕ → ℕ → ℕ
joined mask cpu = if nat_lt cpu 32 then bit_or mask (2 ^ cpu) else mask

-- the CPUs of a mask whose bits are 1
abbrev pub is_active : ℕ → ℕ → ℕ → Bool
is_active mask bits cpu = has mask cpu && has bits cpu

unfoldable pub active_in : ℕ → ℕ → ℕ
active_in mask bits = mask_below (is_active mask bits) 32

-- the least CPU of a mask
abbrev pub only : Option ℕ → ℕ
only None = 0
only (Some cpu) = joined 0 cpu

abbrev pub least_of : ℕ → ℕ
least_of mask = only (first_of mask)

-- those with these bits, or else the least
abbrev pub chosen : ℕ → Option ℕ → ℕ
chosen mask (Some bits) = active_in mask bits
chosen mask None = least_of mask

-- what a mark shows of the works that a task queues
abbrev pub step_of : Sign → TaskStep
step_of (sign.Stop (stop.Open o work)) = step.Over
step_of (sign.Stop (stop.Close answer)) = step.Over
step_of (sign.Stop (stop.Queue cpu arg)) = step.Queues cpu arg
step_of other = step.Nothing

abbrev pub task_step : ℕ → Mark → TaskStep
task_step task m = if m.at.task == task then step_of m.sign else step.Nothing

-- the CPUs for which a task queues works, and these, up to where it opens a stop or has an answer
abbrev pub queued_on : TaskStep → ℕ → (ℕ → ℕ) → ℕ
queued_on step.Over mask more = mask
queued_on (step.Queues cpu arg) mask more = more (joined mask cpu)
queued_on step.Nothing mask more = more mask

abbrev pub queued_mask : ℕ → ℕ → List Mark → ℕ
queued_mask task mask [] = mask
queued_mask task mask (m ∷ ms) = queued_on (task_step task m) mask (λ more. queued_mask task more ms)

-- the argument of the first of these works
abbrev pub data_on : TaskStep → Option ℕ → Option ℕ
data_on step.Over more = None
data_on (step.Queues cpu arg) more = Some arg
data_on step.Nothing more = more

abbrev pub queued_data : ℕ → List Mark → Option ℕ
queued_data task [] = None
queued_data task (m ∷ ms) = data_on (task_step task m) (queued_data task ms)

-- a rendezvous of these CPUs and those, which has that argument as its data; none where no work is queued
abbrev pub rendezvous_if : Option ℕ → ℕ → Option ℕ → Work → ℕ → Option Plan
rendezvous_if None mask bits work task = None
rendezvous_if (Some d) mask bits work task =
    Some (record { kind = kinds.Multi; mask = mask; active = chosen mask bits; work = work; ident = Some d; task = Some task })

abbrev pub rendezvous : ℕ → Option ℕ → Work → ℕ → List Mark → Option Plan
rendezvous from bits work task ms = rendezvous_if (queued_data task ms) (queued_mask task from ms) bits work task

-- the stop of one CPU, and of two, of which the first is active
abbrev pub alone : ℕ → Work → Option ℕ → Plan
alone cpu work task = record { kind = kinds.One; mask = joined 0 cpu; active = 0; work = work; ident = None; task = task }

abbrev pub pair : ℕ → ℕ → Work → ℕ → Plan
pair first second work task =
    record { kind = kinds.Multi; mask = joined (joined 0 first) second; active = joined 0 first; work = work; ident = None; task = Some task }

-- what a stop that is opened is to do, by the marks behind
abbrev pub plan_of : Opening → Work → Stamp → List Mark → Option Plan
plan_of (opening.Machine bits) work at ms = rendezvous 0 bits work at.task ms
plan_of (opening.Inactive bits) work at ms = rendezvous (joined 0 at.cpu) bits work at.task ms
plan_of (opening.Two first second) work at ms = Some (pair first second work at.task)
plan_of (opening.One cpu) work at ms = Some (alone cpu work (Some at.task))
plan_of (opening.NoWait cpu) work at ms = Some (alone cpu work None)

-- an open stop is the one that is looked for
abbrev pub is_known : Option ℕ → Bool → ℕ → Bool
is_known (Some known) may d = known == d
is_known None may d = may

abbrev pub is_entered : Plan → ℕ → ℕ → ℕ → Bool
is_entered p cpu d func = is_known p.ident (has p.mask cpu && p.work.func == func) d

abbrev pub is_task : Option ℕ → ℕ → Bool
is_task None task = false
is_task (Some waits) task = waits == task

abbrev pub is_wanted : Wanted → OpenStop → Bool
is_wanted (wanted.Entered cpu d func) s = is_kind s.plan.kind kinds.Multi && is_entered s.plan cpu d func
is_wanted (wanted.Begun cpu work) s =
    is_kind s.plan.kind kinds.One && has s.plan.mask cpu && s.plan.work.func == work.func && s.plan.work.arg == work.arg && not s.has_begun
is_wanted (wanted.OfTask task) s = is_task s.plan.task task
is_wanted (wanted.Of number) s = s.number == number

-- the first of these that is looked for, where the first of all has this place
abbrev pub found_from : ℕ → Wanted → List OpenStop → Option Found
found_from i w [] = None
found_from i w (s ∷ ss) = if is_wanted w s then Some (record { place = i; stop = s }) else found_from (i + 1) w ss

-- the least of the 64 numbers that is that of none of these
abbrev pub is_free : List OpenStop → ℕ → Bool
is_free stops number = is_none (found_from 0 (wanted.Of number) stops)

abbrev pub free_number : List OpenStop → Option ℕ
free_number stops = first_from (is_free stops) 0 64
