-- What events of stops make of the state.
use Rattle.std.specs.Prelude.{◌≡◌, ℕ, ℤ, Bool, true, false, not, ◌&&◌, ◌||◌, ◌==◌, nat_le, nat_lt, if◌then◌else◌, Option, Some, None, Result, Ok, Err}
use Rattle.smp_mask.specs.Mask.{has}
use Rattle.smp_words.specs.FirstFault.{◌>>=◌}
use Rattle.smp_labels.specs.declared.patch.Place.{Place}
use Rattle.smp_labels.specs.declared.patch.Place.TheVariants.{Key, Site}
use Rattle.smp_words.specs.declared.work.Kind.{Kind}
use Rattle.smp_words.specs.declared.work.Kind.TheVariants.{One, Multi, Patch as APatch}
use Rattle.trace_model.specs.declared.reason.Reason.{Reason}
use Rattle.trace_model.specs.declared.reason.Reason.TheVariants as reason
use Rattle.trace_model.specs.declared.stop.Patch.{Patch}
use Rattle.trace_model.specs.declared.stop.Stop.{Stop}
use Rattle.trace_model.specs.declared.stop.Task.{Task}
use Rattle.trace_model.specs.Cpu.{handles_nothing, in_stop, with_interrupts}
use Rattle.trace_model.specs.Labels.{front_of, patch_now, popped, stored, to_be}
use Rattle.trace_model.specs.State.{StateValue, cpu_at, stop_at, with_cpu, with_stop}
use Rattle.trace_model.specs.Stop.{acknowledged, at_phase, collected, completed, entered, has_run, is_cpu, opened, raised, ran_function, through}
use Rattle.smp_words.specs.declared.phase.TheConstants.{DISABLE_IRQ, RUN, EXIT, OVER}

-- what becomes of the stop of a number
abbrev pub on_stop : ℕ → StateValue → Result Stop Reason → Result StateValue Reason
on_stop number s made = made >>= λ stop. Ok (with_stop number s stop)

-- a CPU's interrupts are on or off
abbrev pub with_irq : ℕ → Bool → StateValue → StateValue
with_irq cpu on s = with_cpu cpu s (with_interrupts on (cpu_at s cpu))

-- a CPU is in the stop of this number, or in none
abbrev pub with_inside : ℕ → Option ℕ → StateValue → StateValue
with_inside cpu number s = with_cpu cpu s (in_stop number (cpu_at s cpu))

-- what is left of the patch of a stop
abbrev pub with_patch : ℕ → Patch → StateValue → StateValue
with_patch number patch s = with_stop number s (record (stop_at s number) { patch = Some patch })

-- a CPU takes the gate, which nobody holds
abbrev pub gate_with : Option ℕ → ℕ → StateValue → Result StateValue Reason
gate_with (Some holder) cpu s = Err (reason.GateOf holder)
gate_with None cpu s = Ok (record s { gate = Some cpu })

unfoldable pub gate_by : ℕ → StateValue → Result StateValue Reason
gate_by cpu s = gate_with s.gate cpu s

-- a CPU holds the gate
abbrev pub holder_is : Option ℕ → ℕ → Result (Unit {0}) Reason
holder_is (Some holder) cpu = if holder == cpu then Ok tt else Err (reason.GateOf holder)
holder_is None cpu = Err reason.GateOfNone

abbrev pub holds_gate : ℕ → StateValue → Result (Unit {0}) Reason
holds_gate cpu s = holder_is s.gate cpu

-- a CPU gives the gate up
unfoldable pub ungate_by : ℕ → StateValue → Result StateValue Reason
ungate_by cpu s = holds_gate cpu s >>= λ u. Ok (record s { gate = None })

-- a CPU may open a stop: where the gate is told, it holds it
abbrev pub may_open : Bool → ℕ → StateValue → Result (Unit {0}) Reason
may_open true cpu s = Ok tt
may_open false cpu s = holds_gate cpu s

-- a CPU opens the stop of a number
abbrev pub open_closed : ℕ → ℕ → Task → StateValue → Result StateValue Reason
open_closed cpu number task s =
    if (stop_at s number).is_open then Err (reason.StopOpen number)
    else (may_open s.setting.without.gate cpu s >>= λ u. on_stop number s (opened s.setting task))

unfoldable pub open_by : ℕ → ℕ → Task → StateValue → Result StateValue Reason
open_by cpu number task s = if nat_lt number 64 then open_closed cpu number task s else Err reason.NoSuchWork

-- the number of the stop that a CPU is in
abbrev pub stop_in : Option ℕ → ℕ → Result ℕ Reason
stop_in (Some number) cpu = if nat_lt number 64 then Ok number else Err (reason.InNoStop cpu)
stop_in None cpu = Err (reason.InNoStop cpu)

abbrev pub stop_of : ℕ → StateValue → Result ℕ Reason
stop_of cpu s = stop_in (cpu_at s cpu).inside cpu

-- a CPU that is in no stop enters one that is open
abbrev pub entered_open : ℕ → ℕ → StateValue → Result StateValue Reason
entered_open cpu number s =
    if nat_lt number 64 && (stop_at s number).is_open then
    (on_stop number s (entered cpu (stop_at s number)) >>= λ t. Ok (with_inside cpu (Some number) t))
    else Err (reason.StopNotOpen number)

abbrev pub enter_from : Result ℕ Reason → ℕ → ℕ → StateValue → Result StateValue Reason
enter_from (Ok inside) cpu number s = Err (reason.IsInStop cpu inside)
enter_from (Err why) cpu number s = entered_open cpu number s

unfoldable pub enter_by : ℕ → ℕ → StateValue → Result StateValue Reason
enter_by cpu number s = enter_from (stop_of cpu s) cpu number s

-- the rendezvous that a CPU is in
abbrev pub unless_one : Kind → ℕ → Result ℕ Reason
unless_one One number = Err (reason.StopIsOf number One)
unless_one _ number = Ok number

abbrev pub in_round : ℕ → StateValue → Result ℕ Reason
in_round cpu s = stop_of cpu s >>= λ number. unless_one (stop_at s number).task.kind number

-- what is left of the patch of a stop, and its next store
abbrev pub patch_left : ℕ → StateValue → Patch
patch_left number s = patch_now s.words (stop_at s number)

abbrev pub next_store : ℕ → StateValue → Option (Place × ℕ)
next_store number s = front_of s.words (stop_at s number).task.func (patch_left number s)

-- a patch is over, and is known
abbrev pub patch_over : Option (Place × ℕ) → ℕ → Patch → StateValue → Result StateValue Reason
patch_over (Some next) number patch s = Err (to_be next)
patch_over None number patch s = Ok (with_patch number patch s)

-- an active CPU may acknowledge RUN: its patch is over, or its function has run
abbrev pub acks_as : Kind → ℕ → ℕ → StateValue → Result StateValue Reason
acks_as APatch cpu number s = patch_over (next_store number s) number (patch_left number s) s
acks_as _ cpu number s = if has_run (stop_at s number) cpu then Ok s else Err reason.FunctionHasNotRun

abbrev pub acks_at_run : ℕ → ℕ → StateValue → Result StateValue Reason
acks_at_run cpu number s = acks_as (stop_at s number).task.kind cpu number s

-- a CPU may acknowledge DISABLE_IRQ: its interrupts are off, or where switches are left out it handles nothing
abbrev pub acks_disabled : Bool → ℕ → StateValue → Result (Unit {0}) Reason
acks_disabled true cpu s = handles_nothing (cpu_at s cpu)
acks_disabled false cpu s = if (cpu_at s cpu).irq then Err reason.InterruptsOn else Ok tt

-- a CPU may acknowledge a phase
abbrev pub may_ack : ℕ → ℕ → ℕ → StateValue → Result StateValue Reason
may_ack cpu number phase s = at_phase (stop_at s number) cpu phase >>= λ u.
    if phase == DISABLE_IRQ then (acks_disabled s.setting.without.switches cpu s >>= λ v. Ok s)
    else (if (phase == RUN) && has (stop_at s number).task.active cpu then acks_at_run cpu number s else Ok s)

-- where switches are left out, interrupts go off with DISABLE_IRQ, and on with EXIT but of the one that is to raise it
abbrev pub switched_at : ℕ → ℕ → ℕ → StateValue → StateValue
switched_at cpu number phase s =
    if phase == DISABLE_IRQ then with_irq cpu false s
    else (if phase == EXIT then with_irq cpu (not (is_cpu (stop_at s number).raiser cpu)) s else s)

abbrev pub switched : ℕ → ℕ → ℕ → StateValue → StateValue
switched cpu number phase s = if s.setting.without.switches then switched_at cpu number phase s else s

-- a CPU has acknowledged a phase
abbrev pub acked : ℕ → ℕ → ℕ → StateValue → StateValue
acked cpu number phase s =
    switched cpu number phase (with_stop number s (acknowledged cpu phase (not s.setting.without.raises) (stop_at s number)))

-- a CPU acknowledges a phase of its rendezvous
unfoldable pub ack_by : ℕ → ℕ → StateValue → Result StateValue Reason
ack_by cpu phase s = in_round cpu s >>= λ number. may_ack cpu number phase s >>= λ t. Ok (acked cpu number phase t)

-- where switches are left out, interrupts are on once the last phase is raised
abbrev pub switched_on : ℕ → ℕ → StateValue → StateValue
switched_on cpu phase s = if s.setting.without.switches && (phase == OVER) then with_irq cpu true s else s

-- a CPU raises the phase of its rendezvous
unfoldable pub raise_by : ℕ → ℕ → StateValue → Result StateValue Reason
raise_by cpu phase s =
    in_round cpu s >>= λ number. on_stop number s (raised cpu phase (stop_at s number)) >>= λ t. Ok (switched_on cpu phase t)

-- a CPU may turn its interrupts off: at DISABLE_IRQ, where it handles nothing
abbrev pub may_off : ℕ → ℕ → StateValue → Result (Unit {0}) Reason
may_off cpu number s =
    if (cpu_at s cpu).irq then (at_phase (stop_at s number) cpu DISABLE_IRQ >>= λ u. handles_nothing (cpu_at s cpu)) else Err reason.InterruptsOff

unfoldable pub off_by : ℕ → StateValue → Result StateValue Reason
off_by cpu s = in_round cpu s >>= λ number. may_off cpu number s >>= λ u. Ok (with_irq cpu false s)

-- a CPU turns its interrupts on: it is through
unfoldable pub on_by : ℕ → StateValue → Result StateValue Reason
on_by cpu s = in_round cpu s >>= λ number.
    if (cpu_at s cpu).irq then Err reason.InterruptsOn else (through (stop_at s number) cpu >>= λ u. Ok (with_irq cpu true s))

-- a CPU enters the function of its stop, which is no patch
abbrev pub run_as : Kind → ℕ → ℕ → ℕ → ℕ → StateValue → Result StateValue Reason
run_as APatch number cpu func arg s = Err (reason.StopIsOf number APatch)
run_as _ number cpu func arg s = on_stop number s (ran_function cpu func arg (stop_at s number))

unfoldable pub run_by : ℕ → ℕ → ℕ → StateValue → Result StateValue Reason
run_by cpu func arg s = stop_of cpu s >>= λ number. run_as (stop_at s number).task.kind number cpu func arg s

-- a CPU completes its stop
unfoldable pub complete_by : ℕ → ℤ → StateValue → Result StateValue Reason
complete_by cpu answer s = stop_of cpu s >>= λ number.
    on_stop number s (completed cpu answer (cpu_at s cpu).irq (stop_at s number)) >>= λ t. Ok (with_inside cpu None t)

-- the result of a stop is collected
unfoldable pub collect_by : ℕ → ℤ → StateValue → Result StateValue Reason
collect_by number answer s =
    if nat_lt number 64 && (stop_at s number).is_open then on_stop number s (collected answer (stop_at s number))
    else Err (reason.StopNotOpen number)

-- the patch that a CPU makes: it is the active one, at RUN
abbrev pub if_patch : Kind → ℕ → Result ℕ Reason
if_patch APatch number = Ok number
if_patch kind number = Err (reason.StopIsOf number kind)

abbrev pub in_patch : ℕ → StateValue → Result ℕ Reason
in_patch cpu s = stop_of cpu s >>= λ number. if_patch (stop_at s number).task.kind number >>= λ patch.
    if has (stop_at s number).task.active cpu then (at_phase (stop_at s number) cpu RUN >>= λ u. Ok number) else Err (reason.NotActive cpu)

-- that is the store of this word at this place
abbrev pub is_place : Place → Place → Bool
is_place (Key one) (Key other) = one == other
is_place (Site one) (Site other) = one == other
is_place _ _ = false

abbrev pub is_store : Place × ℕ → Place → ℕ → Bool
is_store next place word = is_place next.0 place && (next.1 == word)

-- a store of the keys and sites
abbrev pub with_word : Place → ℕ → StateValue → StateValue
with_word place word s = record s { words = stored place word s.words }

-- a patch makes the store that is next
abbrev pub made_store : Option (Place × ℕ) → ℕ → Patch → Place → ℕ → StateValue → Result StateValue Reason
made_store None number patch place word s = Err reason.PatchOver
made_store (Some next) number patch place word s =
    if is_store next place word then Ok (with_patch number (popped patch place) (with_word place word s)) else Err (to_be next)

unfoldable pub patch_by : ℕ → Place → ℕ → StateValue → Result StateValue Reason
patch_by cpu place word s = in_patch cpu s >>= λ number. made_store (next_store number s) number (patch_left number s) place word s
