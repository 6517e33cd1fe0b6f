-- What events of calls make of the state.
use Rattle.std.specs.Prelude.{◌≡◌, ℕ, Bool, true, false, not, ◌&&◌, ◌==◌, if◌then◌else◌, List, [], ◌∷◌, slice_set, is_some, Result, Ok, Err}
use Rattle.smp_words.specs.FirstFault.{◌>>=◌}
use Rattle.trace_model.specs.declared.call.Call.{Call}
use Rattle.trace_model.specs.declared.call.Place.{Place}
use Rattle.trace_model.specs.declared.call.Place.TheVariants.{Free, Queue, Batch, Run}
use Rattle.trace_model.specs.declared.cpu.handling.Entry.{Entry}
use Rattle.trace_model.specs.declared.halt.Halt.{Halt}
use Rattle.trace_model.specs.declared.halt.Halt.TheVariants as halt
use Rattle.trace_model.specs.declared.reason.Reason.{Reason}
use Rattle.trace_model.specs.declared.reason.Reason.TheVariants as reason
use Rattle.trace_model.specs.Cpu.{CpuState, accepted, as_idle, begun, begun_loose, ended, interrupted, is_bare, may_take, noted, owing, pushed, pushed_other}
use Rattle.trace_model.specs.Cpu.{runs_locked, sent, taken, unlocked}
use Rattle.trace_model.specs.Online.{is_online}
use Rattle.trace_model.specs.Places.{is_batch}
use Rattle.trace_model.specs.State.{StateValue, cpu_at, freed, place_at, place_reason, with_cpu, with_place}

-- a step was made and leads there, or there is none for that reason, or memory ran out
abbrev pub Steps : {S : Type 0} → Result (Unit {0}) Halt → S → Result S Reason → Type 0
Steps (Ok u) new made = made ≡ Ok new
Steps (Err (halt.Broken why)) new made = made ≡ Err why
Steps (Err halt.NoMemory) new made = Unit {0}

-- what a CPU makes of its part
abbrev pub on_cpu : ℕ → StateValue → Result CpuState Reason → Result StateValue Reason
on_cpu cpu s made = made >>= λ c. Ok (with_cpu cpu s c)

-- a call is in the queue of its destination
abbrev pub joined_first : Bool → Call → ℕ → StateValue → StateValue
joined_first first call to s =
    let t = with_cpu to s (pushed call (cpu_at s to)) in
    with_place call.id (Queue to) (with_cpu call.source t (noted to first (cpu_at t call.source)))

abbrev pub joined : Call → ℕ → StateValue → StateValue
joined call to s = joined_first (is_bare (cpu_at s to)) call to s

-- a call joins a queue: of a CPU that is online and not the caller, by a record that is free
unfoldable pub queue_by : Call → ℕ → StateValue → Result StateValue Reason
queue_by call to s =
    if is_online s.setting to then (if to == call.source then Err (reason.IsCaller to) else (freed call.id s >>= λ t. Ok (joined call to t)))
    else Err (reason.NotOnline to)

-- what is no call is in the queue of a CPU
abbrev pub other_joined_first : Bool → ℕ → ℕ → StateValue → StateValue
other_joined_first first cpu to s =
    let t = with_cpu to s (pushed_other (cpu_at s to)) in
    with_cpu cpu t (owing to first (cpu_at t cpu))

abbrev pub other_joined : ℕ → ℕ → StateValue → StateValue
other_joined cpu to s = other_joined_first (is_bare (cpu_at s to)) cpu to s

-- what is no call joins a queue: of a CPU that is online and not the caller. Without the order of queues it is not kept
unfoldable pub other_by : ℕ → ℕ → StateValue → Result StateValue Reason
other_by cpu to s =
    if is_online s.setting to then (if to == cpu then Err (reason.IsCaller to) else Ok (if s.setting.without.order then s else other_joined cpu to s))
    else Err (reason.NotOnline to)

-- an interrupt is sent to a CPU that is online
unfoldable pub send_by : ℕ → ℕ → StateValue → Result StateValue Reason
send_by cpu to s =
    let t = with_cpu to s (interrupted (cpu_at s to)) in
    if is_online s.setting to then Ok (with_cpu cpu t (sent to (cpu_at t cpu))) else Err (reason.NotOnline to)

abbrev pub accept_by : ℕ → StateValue → Result StateValue Reason
accept_by cpu s = on_cpu cpu s (accepted (cpu_at s cpu))

abbrev pub idle_by : ℕ → StateValue → Result (Unit {0}) Reason
idle_by cpu s = as_idle (cpu_at s cpu)

-- these records are at this place
abbrev pub placed : Place → List Call → List Place → List Place
placed place [] places = places
placed place (x ∷ xs) places = placed place xs (slice_set places x.id place)

-- the records of a CPU's queue are in its batch
abbrev pub moved : ℕ → StateValue → StateValue
moved cpu s = record s { places = placed (Batch cpu) (cpu_at s cpu).queue s.places }

-- a CPU takes its whole queue
unfoldable pub take_by : ℕ → StateValue → Result StateValue Reason
take_by cpu s = may_take (not s.setting.without.interrupts) (cpu_at s cpu) >>= λ u. Ok (with_cpu cpu (moved cpu s) (taken (cpu_at s cpu)))

-- a CPU unlocks a record
unfoldable pub unlock_by : ℕ → ℕ → StateValue → Result StateValue Reason
unlock_by cpu id s =
    on_cpu cpu s (unlocked id (is_batch (place_at s id) cpu) (place_reason id (place_at s id)) (cpu_at s cpu)) >>= λ t. Ok (with_place id Free t)

-- what becomes of a CPU that enters a function, where the order of queues is left out or told
abbrev pub entered_by : Bool → ℕ → Entry → Place → StateValue → Result CpuState Reason
entered_by true cpu seen place s = begun_loose seen (place_reason seen.id place) (cpu_at s cpu)
entered_by false cpu seen place s =
    begun seen (is_batch place cpu) (place_reason seen.id place) (not s.setting.without.unlocks) (cpu_at s cpu)

-- the record of a SYNC call is locked while its function runs, that of an ASYNC one is free
abbrev pub place_of_run : ℕ → CpuState → Place
place_of_run cpu c = if runs_locked c then Run cpu else Free

-- a call that was unlocked before keeps the place of its record
abbrev pub placed_unless : Bool → ℕ → ℕ → StateValue → StateValue
placed_unless true cpu id s = s
placed_unless false cpu id s = with_place id (place_of_run cpu (cpu_at s cpu)) s

-- a CPU enters the function of a call
unfoldable pub begin_by : ℕ → Entry → StateValue → Result StateValue Reason
begin_by cpu seen s = on_cpu cpu s (entered_by s.setting.without.order cpu seen (place_at s seen.id) s)
    >>= λ t. Ok (placed_unless (is_some (cpu_at s cpu).current) cpu seen.id t)

-- where unlocks are left out, the record of a SYNC call is free at its end
abbrev pub freed_if : Bool → ℕ → StateValue → StateValue
freed_if true id s = with_place id Free s
freed_if false id s = s

-- the function of a call has returned
unfoldable pub end_by : ℕ → ℕ → StateValue → Result StateValue Reason
end_by cpu id s = on_cpu cpu s (ended id (not s.setting.without.unlocks) (cpu_at s cpu))
    >>= λ t. Ok (freed_if (runs_locked (cpu_at s cpu) && s.setting.without.unlocks) id t)
