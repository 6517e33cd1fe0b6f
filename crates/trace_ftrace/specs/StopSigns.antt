-- What a line shows of stops.
use Rattle.std.specs.Prelude.{ℕ, ℤ, pos, negsuc, ◌-◌, Bool, ◌==◌, ◌||◌, ◌&&◌, nat_le, nat_lt, bit_and, if◌then◌else◌}
use Rattle.std.specs.Prelude.{List, Option, Some, None, Result, Ok, Err, codes}
use Rattle.std.specs.Str.{bytes_eq}
use Rattle.smp_words.specs.FirstFault.{◌>>=◌}
use Rattle.trace_ftrace.specs.Fields.{address_of, field_of, needed, needed_address, needed_low_cpu}
use Rattle.trace_ftrace.specs.Numbers.{number_of}
use Rattle.trace_ftrace.specs.Options.{◌>>?◌}
use Rattle.trace_ftrace.specs.declared.stop_sign.Opening.{Opening}
use Rattle.trace_ftrace.specs.declared.stop_sign.Opening.TheVariants as opening
use Rattle.trace_ftrace.specs.declared.stop_sign.StopSign.{StopSign}
use Rattle.trace_ftrace.specs.declared.stop_sign.StopSign.TheVariants as stop
use Rattle.trace_ftrace.specs.declared.stop_sign.Work.{Work}
use Rattle.trace_ftrace.specs.declared.wrong.Wrong.{Wrong}
use Rattle.trace_ftrace.specs.declared.wrong.Wrong.TheVariants as wrong

-- the function and the argument
unfoldable pub needed_work : List (List ℕ) → Result Work Wrong
needed_work fields = needed_address (codes "fn") fields >>= λ func. needed_address (codes "arg") fields >>= λ arg.
    Ok (record { func = func; arg = arg })

-- the answer that is a word of 32 bits
unfoldable pub answer_of : ℕ → ℤ
answer_of word = let low = bit_and word 4294967295 in if nat_lt low 2147483648 then pos low else negsuc (4294967295 - low)

unfoldable pub needed_answer : List (List ℕ) → Result ℤ Wrong
needed_answer fields = needed_address (codes "ret") fields >>= λ word. Ok (answer_of word)

-- a phase that can be acknowledged
unfoldable pub phase_of : ℕ → Result ℕ Wrong
phase_of phase = if nat_le 1 phase && nat_le phase 4 then Ok phase else Err wrong.Field

unfoldable pub needed_phase : List (List ℕ) → Result ℕ Wrong
needed_phase fields = needed (field_of (codes "state") fields >>? number_of 10) >>= phase_of

-- the bits of the CPUs that are active, where there is a mask of them
abbrev pub active_at : Option ℕ → List (List ℕ) → Result (Option ℕ) Wrong
active_at None fields = Err wrong.Field
active_at (Some cpus) fields =
    if cpus == 0 then Ok None else (needed_address (codes "active") fields >>= λ bits. Ok (Some bits))

abbrev pub active_in : Option (List ℕ) → List (List ℕ) → Result (Option ℕ) Wrong
active_in None fields = Ok None
active_in (Some text) fields = active_at (address_of text) fields

unfoldable pub active_of : List (List ℕ) → Result (Option ℕ) Wrong
active_of fields = active_in (field_of (codes "cpus") fields) fields

unfoldable pub pair_sign : List (List ℕ) → Result Opening Wrong
pair_sign fields = needed_low_cpu (codes "cpu1") fields >>= λ a. needed_low_cpu (codes "cpu2") fields >>= λ b. Ok (opening.Two a b)

-- how a line opens a stop
unfoldable pub open_sign : List ℕ → List (List ℕ) → Result (Option Opening) Wrong
open_sign event fields =
    if bytes_eq event (codes "stop_open") then (active_of fields >>= λ bits. Ok (Some (opening.Machine bits)))
    else (if bytes_eq event (codes "inactive_open") then (active_of fields >>= λ bits. Ok (Some (opening.Inactive bits)))
    else (if bytes_eq event (codes "two_open") then (pair_sign fields >>= λ pair. Ok (Some pair))
    else (if bytes_eq event (codes "one_open") then (needed_low_cpu (codes "cpu") fields >>= λ cpu. Ok (Some (opening.One cpu)))
    else (if bytes_eq event (codes "nowait_open") then (needed_low_cpu (codes "cpu") fields >>= λ cpu. Ok (Some (opening.NoWait cpu)))
    else Ok None))))

abbrev pub is_close : List ℕ → Bool
is_close event =
    bytes_eq event (codes "stop_close") || bytes_eq event (codes "one_close") || bytes_eq event (codes "two_close")
    || bytes_eq event (codes "inactive_close")

unfoldable pub queue_sign : List (List ℕ) → Result StopSign Wrong
queue_sign fields = needed_low_cpu (codes "cpu") fields >>= λ cpu. needed_address (codes "arg") fields >>= λ arg. Ok (stop.Queue cpu arg)

unfoldable pub enter_sign : List (List ℕ) → Result StopSign Wrong
enter_sign fields = needed_address (codes "data") fields >>= λ d. needed_address (codes "fn") fields >>= λ func. Ok (stop.Enter d func)

-- what a line shows that tells an answer
unfoldable pub answer_sign : List ℕ → List (List ℕ) → Result (Option StopSign) Wrong
answer_sign event fields =
    if bytes_eq event (codes "stop_leave") then (needed_answer fields >>= λ v. Ok (Some (stop.Leave v)))
    else (if bytes_eq event (codes "stop_done") then (needed_answer fields >>= λ v. Ok (Some (stop.Done v)))
    else (if is_close event then (needed_answer fields >>= λ v. Ok (Some (stop.Close v))) else Ok None))

-- what a line shows of a stop that is open
unfoldable pub step_sign : List ℕ → List (List ℕ) → Result (Option StopSign) Wrong
step_sign event fields =
    if bytes_eq event (codes "stop_queue") then (queue_sign fields >>= λ s. Ok (Some s))
    else (if bytes_eq event (codes "stop_enter") then (enter_sign fields >>= λ s. Ok (Some s))
    else (if bytes_eq event (codes "stop_ack") then (needed_phase fields >>= λ p. Ok (Some (stop.Ack p)))
    else (if bytes_eq event (codes "stop_run") then (needed_work fields >>= λ w. Ok (Some (stop.Run w)))
    else (if bytes_eq event (codes "stop_work") then (needed_work fields >>= λ w. Ok (Some (stop.Start w)))
    else answer_sign event fields))))

-- what a line with this event and these fields shows of stops
abbrev pub opened_or : Option Opening → List ℕ → List (List ℕ) → Result (Option StopSign) Wrong
opened_or (Some o) event fields = needed_work fields >>= λ w. Ok (Some (stop.Open o w))
opened_or None event fields = step_sign event fields

unfoldable pub stop_sign : List ℕ → List (List ℕ) → Result (Option StopSign) Wrong
stop_sign event fields = open_sign event fields >>= λ o. opened_or o event fields
