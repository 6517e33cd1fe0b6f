-- What a line shows.
use Rattle.std.specs.Prelude.{ℕ, Bool, true, false, bit_and, ◌==◌, ◌||◌, ◌&&◌, if◌then◌else◌, List, [], ◌∷◌, Option, Some, None, Result, Ok, codes}
use Rattle.std.specs.Str.{bytes_eq}
use Rattle.smp_words.specs.FirstFault.{◌>>=◌}
use Rattle.smp_words.specs.declared.call.Class.{Class}
use Rattle.smp_words.specs.declared.call.Class.TheVariants as class
use Rattle.trace_ftrace.specs.Fields.{address_of, field_of, needed, needed_address, needed_cpu, symbol_of}
use Rattle.trace_ftrace.specs.StopSigns.{stop_sign}
use Rattle.trace_ftrace.specs.declared.sign.Sign.{Sign}
use Rattle.trace_ftrace.specs.declared.sign.Sign.TheVariants as sign
use Rattle.trace_ftrace.specs.declared.sign.Sort.{Sort}
use Rattle.trace_ftrace.specs.declared.sign.Sort.TheVariants as sort
use Rattle.trace_ftrace.specs.declared.stop_sign.StopSign.{StopSign}
use Rattle.trace_ftrace.specs.declared.wrong.Wrong.{Wrong}

-- the sort of a record with these flags
abbrev pub sort_of : ℕ → Sort
sort_of flags = let bits = bit_and flags 240 in if bits == 0 then sort.Async else (if bits == 16 then sort.Sync else sort.Other)

-- the class of a call, ASYNC where it is not shown; none of what is no call
abbrev pub class_of : Sort → Option Class
class_of sort.Unshown = Some class.Async
class_of sort.Async = Some class.Async
class_of sort.Sync = Some class.Sync
class_of sort.Wake = None
class_of sort.Other = None

-- a field has this function
abbrev pub is_symbol_in : List ℕ → Option (List ℕ) → Bool
is_symbol_in name None = false
is_symbol_in name (Some text) = bytes_eq (symbol_of text) name

unfoldable pub is_symbol : List ℕ → List ℕ → List (List ℕ) → Bool
is_symbol name of fields = is_symbol_in of (field_of name fields)

-- the sort that these flags show; else irq work by who has queued it, or a call of no class
abbrev pub sort_in : Option (List ℕ) → Bool → Result Sort Wrong
sort_in (Some text) is_work = needed (address_of text) >>= λ flags. Ok (sort_of flags)
sort_in None is_work = Ok (if is_work then sort.Other else sort.Unshown)

-- they have the function by which a CPU wakes tasks
abbrev pub is_wakes : List (List ℕ) → Bool
is_wakes fields = is_symbol (codes "func") (codes "sched_ttwu_pending") fields

unfoldable pub shown_sort : List (List ℕ) → Result Sort Wrong
shown_sort fields =
    if is_wakes fields then Ok sort.Wake
    else sort_in (field_of (codes "flags") fields) (is_symbol (codes "callsite") (codes "irq_work_queue_on") fields)

unfoldable pub queue_sign : List (List ℕ) → Result Sign Wrong
queue_sign fields = needed_cpu (codes "cpu") fields >>= λ to. needed_address (codes "csd") fields >>= λ address. shown_sort fields >>= λ s.
    Ok (sign.Queue to address s false)

unfoldable pub class_sign : List (List ℕ) → Result Sign Wrong
class_sign fields = needed_address (codes "csd") fields >>= λ address. needed_address (codes "flags") fields >>= λ flags.
    Ok (sign.Class address (sort_of flags))

-- a function is entered: of a record or of a direct call; that of wakes is passed over
unfoldable pub begin_sign : List (List ℕ) → Result (Option Sign) Wrong
begin_sign fields = needed_address (codes "csd") fields >>= λ address.
    Ok (if is_wakes fields then Some sign.Passed else (if address == 0 then Some sign.Direct else Some (sign.Begin address)))

-- it has returned; those of a direct call and of wakes are passed over
unfoldable pub end_sign : List (List ℕ) → Result (Option Sign) Wrong
end_sign fields = needed_address (codes "csd") fields >>= λ address.
    Ok (if address == 0 || is_wakes fields then Some sign.Passed else Some (sign.End address))

-- a record is queued, the function of a call is entered, or that of a record's call has returned
abbrev pub is_queue : List ℕ → Bool
is_queue event = bytes_eq event (codes "csd_queue_cpu") || bytes_eq event (codes "one_queue") || bytes_eq event (codes "many_queue")

abbrev pub is_entry : List ℕ → Bool
is_entry event = bytes_eq event (codes "csd_function_entry") || bytes_eq event (codes "sync_entry2") || bytes_eq event (codes "async_entry")

abbrev pub is_exit : List ℕ → Bool
is_exit event = bytes_eq event (codes "csd_function_exit") || bytes_eq event (codes "sync_exit2")

-- a CPU enters the interrupt of calls; a probe is behind an append
abbrev pub is_interrupt : List ℕ → Bool
is_interrupt event = bytes_eq event (codes "call_function_entry") || bytes_eq event (codes "call_function_single_entry")

abbrev pub is_probe : List ℕ → Bool
is_probe event = bytes_eq event (codes "csd_queued") || bytes_eq event (codes "one_queued") || bytes_eq event (codes "many_queued")

-- an event is of calls or stops, by its first letters
abbrev pub begins : List ℕ → List ℕ → Bool
begins [] text = true
begins (b ∷ bs) [] = false
begins (b ∷ bs) (c ∷ cs) = c == b && begins bs cs

abbrev pub is_passed : List ℕ → Bool
is_passed event = begins (codes "csd_") event || begins (codes "stop_") event || begins (codes "ipi_send") event
    || begins (codes "call_function") event

-- what a line shows that tells no event
abbrev pub passed_sign : List ℕ → Option Sign
passed_sign event =
    if is_interrupt event then Some sign.Interrupt
    else (if is_probe event then Some sign.Probe else (if is_passed event then Some sign.Passed else None))

-- what a line with this event and these fields shows
abbrev pub of_stop : List ℕ → Option StopSign → Option Sign
of_stop event None = passed_sign event
of_stop event (Some s) = Some (sign.Stop s)

unfoldable pub sign_of : List ℕ → List (List ℕ) → Result (Option Sign) Wrong
sign_of event fields =
    if is_queue event then (queue_sign fields >>= λ s. Ok (Some s))
    else (if bytes_eq event (codes "csd_class") then (class_sign fields >>= λ s. Ok (Some s))
    else (if is_entry event then begin_sign fields
    else (if is_exit event then end_sign fields
    else (if bytes_eq event (codes "async_exit") then Ok (Some sign.EndLast) else (stop_sign event fields >>= λ s. Ok (of_stop event s))))))
