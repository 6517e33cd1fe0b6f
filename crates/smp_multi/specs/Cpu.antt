-- What contracts see of a table, of a CPU and of the CPUs that were not given out.
use Rattle.std.specs.Prelude.{◌≡◌, ℕ, ◌+◌, ◌<◌, Bool, true, false, cond, Option, Some, None, List, [], ◌∷◌, ◌++◌, length}
use Rattle.std.specs.Prelude.{IfSome, slice_index_or, slice_set}
use Rattle.atomic_table.specs.Seated.{TableId}
use Rattle.smp_mask.specs.Mask.{has}
use Rattle.smp_words.specs.Size.{cpus}
use Rattle.smp_stop_steps.specs.Threads.Known.{fresh}
use Rattle.smp_multi.specs.Lives.{Lives}
use Rattle.smp_stop_steps.specs.Callings.{with_answer}
use Rattle.smp_stop_steps.specs.Seats.{irq_of}
use Rattle.smp_stop_steps.specs.Sits.{SitsAtRest, OwnsIf}
use Rattle.smp_stop_steps.specs.Tells.{calls_at_run}
use Rattle.smp_words.specs.declared.phase.TheConstants.{DISABLE_IRQ}
use Rattle.smp_stop_steps.specs.declared.stage.Visit.{Visit}
use Rattle.smp_stop_steps.specs.declared.start.Terms.{Terms}
use Rattle.smp_multi.specs.Names.{Attempt, Work, StopRole, In, Gives, Alters, KnownStops, OwnMove, StopPart, StopSetting, StopCall, Calling, Idle, Carries}
use Rattle.smp_multi.specs.Names.own
use Rattle.smp_multi.specs.Places.{pending_of, work_in}
use Rattle.smp_multi.specs.Seat.{SeatValue}

-- a table: its name, how many CPUs it has, and what it is made with
pub record TableValue : Type 0 where
  pub table : TableId
  pub nr : ℕ
  pub setting : StopSetting

-- the stop that a CPU is in: the source whose stop it is, its work, and the last phase that the CPU has acknowledged
pub record Inside : Type 0 where
  pub slot : ℕ
  pub work : Work
  pub acked : ℕ

-- a CPU between two calls: its table, its number, the work of its own stop that is not collected, the stop that it is
-- in, whether its interrupts are on, its own part of all stops, its steps at the gate, at its own stop and at keys, in the
-- order in which it has made them, in the same way its attempts to enter a stop, and how many steps it has made in all
pub record CpuValue : Type 0 where
  pub table : TableId
  pub setting : StopSetting
  pub number : ℕ
  pub pending : Option Work
  pub inside : Option Inside
  pub irq : Bool
  pub part : StopPart
  pub moves : List OwnMove
  pub attempts : List Attempt
  pub steps : ℕ

-- a CPU that has come to call the function of its stop, and that call
pub record AnsweringValue : Type 0 where
  pub cpu : CpuValue
  pub func : ℕ
  pub arg : ℕ

abbrev pub inside_of : StopRole → Option Inside
inside_of (In s w a l t) = Some (record { slot = s; work = w; acked = a })
inside_of (Gives s w a x) = Some (record { slot = s; work = w; acked = a })
inside_of (Alters s w count made rest) = Some (record { slot = s; work = w; acked = DISABLE_IRQ })
inside_of _ = None

abbrev pub is_in : Option Inside → Bool
is_in None = false
is_in (Some x) = true

abbrev pub is_pending : Option Work → Bool
is_pending None = false
is_pending (Some w) = true

-- the call of the function of a stop with this answer
abbrev pub call_with : Work → ℕ → StopCall
call_with w answer = record { func = w.func; arg = w.arg; answer = answer }

-- its calls in stops: one that carries an answer has called the function of its stop, where it calls one at RUN
abbrev pub calls_with : ℕ → ℕ → Work → List StopCall → Calling → List StopCall
calls_with answer me w calls (Carries x) = cond (calls_at_run me w) (calls ++ call_with w answer ∷ []) calls
calls_with answer me w calls _ = calls

-- its part with this answer, which no step tells before the completion
abbrev pub part_with : ℕ → KnownStops → StopPart
part_with answer v = record (v.part) {
  calls = calls_with answer v.number (work_in v.seat) v.part.calls v.part.calling;
  calling = with_answer answer v.part.calling;
}

-- what a CPU knows, with the answer that it carries, as contracts see it
abbrev pub cpu_of : SeatValue → CpuValue
cpu_of d = record {
  table = d.table;
  setting = d.known.setting;
  number = d.known.number;
  pending = pending_of d.known.source;
  inside = inside_of d.known.seat;
  irq = irq_of d.known.seat;
  part = part_with d.known.carried d.known;
  moves = d.known.moves;
  attempts = d.known.attempts;
  steps = d.known.steps;
}

-- a CPU that has done nothing
abbrev pub fresh_cpu : TableId → StopSetting → ℕ → CpuValue
fresh_cpu table k cpu = cpu_of (record { table = table; known = fresh k cpu })

-- the CPU is one of this table
pub record IsAt (t : TableValue) (c : CpuValue) : Type 0 where
  pub table : c.table ≡ t.table
  pub setting : c.setting ≡ t.setting

-- the slot of a visit is one of the table
abbrev pub IsLow : Option Visit → Type 0
IsLow None = Unit {0}
IsLow (Some x) = x.slot < cpus

-- it calls no function now; it carries an answer in a stop alone, and 0 where it carries none
abbrev pub CallsNone : Option Visit → ℕ → Calling → Type 0
CallsNone visit carried Idle = carried ≡ 0
CallsNone (Some x) carried (Carries answer) = Unit {0}
CallsNone _ carried _ = ⊥

-- what a CPU keeps between two calls: it is between two turns of the stop that it is in, calls no function, begins no
-- stop, and what it knows is its part of some stops
pub record IsKept (v : KnownStops) (number : ℕ) (visit : Option Visit) (holds is_open : Bool) : Type 0 where
  pub number_is : v.number ≡ number
  pub below : number < cpus
  pub online : has v.setting.online number ≡ true
  pub rests : SitsAtRest visit v.seat
  pub low : IsLow visit
  pub quiet : CallsNone visit v.carried v.part.calling
  pub holds_is : holds ≡ v.part.holds
  pub owns : OwnsIf is_open v.source
  pub lives : Lives v

-- a CPU with the gate or without
abbrev pub gated : Bool → CpuValue → CpuValue
gated b c = record c { part = record (c.part) { holds = b } }

-- one that has made this number of steps more
abbrev pub makes : ℕ → CpuValue → CpuValue
makes n c = record c { steps = c.steps + n }

-- one that has made one more step of its own
abbrev pub moves_on : OwnMove → CpuValue → CpuValue
moves_on m c = record c { moves = c.moves ++ m ∷ [] }

-- one that has taken the gate, at one exchange; that has given it up, at one store; that has tried it once, and lost
abbrev pub takes_gate : CpuValue → CpuValue
takes_gate c = makes 1 (moves_on own.Took (gated true c))

abbrev pub gives_gate : CpuValue → CpuValue
gives_gate c = makes 1 (moves_on own.Gave (gated false c))

abbrev pub misses_gate : CpuValue → CpuValue
misses_gate c = makes 1 (moves_on own.Busy c)

-- one that has begun a stop of this work, at eleven stores
abbrev pub begins : Work → CpuValue → CpuValue
begins w c = makes 11 (moves_on (own.Began w) (record c { pending = Some w; part = record (c.part) { begun = c.part.begun ++ w ∷ [] } }))

-- one that has made one more attempt to enter the stop of this slot
abbrev pub tries : ℕ → Bool → CpuValue → CpuValue
tries slot entered c = record c { attempts = c.attempts ++ record { slot = slot; entered = entered } ∷ [] }

-- one that has entered the stop of this slot, which is this work, and has loaded its kind and its two masks; and one that has looked
-- for it on the roll once, in vain
abbrev pub enters : ℕ → Work → CpuValue → CpuValue
enters slot w c = makes 4 (tries slot true (record c { inside = Some (record { slot = slot; work = w; acked = 0 }) }))

abbrev pub misses : ℕ → CpuValue → CpuValue
misses slot c = makes 1 (tries slot false c)

-- one that has called a stop function
abbrev pub runs : StopCall → CpuValue → CpuValue
runs call c = record c { part = record (c.part) { calls = c.part.calls ++ call ∷ [] } }

-- one that has completed the stop of this slot with this answer
abbrev pub answers : ℕ → ℕ → CpuValue → CpuValue
answers slot x c = record c {
  inside = None;
  irq = true;
  part = record (c.part) { calling = Idle; answers = slice_set c.part.answers slot (slice_index_or c.part.answers slot [] ++ x ∷ []) };
}

-- one that has found done set and has collected this result, at two loads
abbrev pub collects : ℕ → CpuValue → CpuValue
collects x c = makes 2 (moves_on (own.Collected x) (record c { pending = None; part = record (c.part) { collected = c.part.collected ++ x ∷ [] } }))

-- one that has looked at done once, and has found it not set
abbrev pub looks_in_vain : CpuValue → CpuValue
looks_in_vain c = makes 1 (moves_on own.NotDone c)

-- what a refusal depends on
abbrev pub terms_of : TableValue → CpuValue → Terms
terms_of t c = record { nr = t.nr; online = t.setting.online; keys = t.setting.labels.keys; sites = length t.setting.labels.entries; holds_gate = c.part.holds }

-- the CPUs of a table that were not given out: for each number, whether it was not
pub record BootValue : Type 0 where
  pub table : TableId
  pub setting : StopSetting
  pub left : List Bool

-- whether the CPU of a number is left
abbrev pub is_left : BootValue → ℕ → Bool
is_left b cpu = slice_index_or b.left cpu false

-- without the CPU of a number
abbrev pub given : ℕ → BootValue → BootValue
given cpu b = record b { left = slice_set b.left cpu false }

-- each CPU that is online waits fresh, or was given out
pub record AreWaiting (table : TableId) (k : StopSetting) (online : ℕ) (waiting : List (Option CpuValue)) : Type 0 where
  pub online_is : online ≡ k.online
  pub sized : (cpu : ℕ) → has online cpu ≡ true → cpu < length waiting
  pub fresh_are : (cpu : ℕ) → has online cpu ≡ true → IfSome (slice_index_or waiting cpu None) (λ c. c ≡ fresh_cpu table k cpu)

-- all CPUs of this table that are online are left
pub record IsFull (b : BootValue) (table : TableId) (k : StopSetting) : Type 0 where
  pub table_is : b.table ≡ table
  pub setting_is : b.setting ≡ k
  pub left_are : (cpu : ℕ) → has k.online cpu ≡ true → is_left b cpu ≡ true
