-- What events tell of stops.
use Rattle.std.specs.Prelude.{◌≡◌, ℕ, ◌<◌, ◌≤◌, Bool, true, false, ◌==◌, if◌then◌else◌, List, [], ◌∷◌, ◌++◌, map, Option, Some, None}
use Rattle.smp_mask.specs.Mask.{has}
use Rattle.smp_words.specs.declared.work.Kind.{Kind}
use Rattle.smp_words.specs.declared.work.Kind.TheVariants.{One, Multi, Patch}
use Rattle.trace_model.specs.declared.event.Event.{Event}
use Rattle.trace_model.specs.declared.event.Event.TheVariants as event
use Rattle.trace_model.specs.declared.event.StopEvent.TheVariants as stops
use Rattle.trace_model.specs.declared.stop.Task.{Task}
use Rattle.trace_model.specs.declared.without.Setting.{Setting}
use Rattle.trace_laws.specs.CallEvents.{begins, ends}
use Rattle.trace_laws.specs.Traces.{IsTrace, record_of}
use Rattle.trace_model.specs.State.{StateValue}
use Rattle.trace_model.specs.declared.event.LabelEvent.{LabelEvent}
use Rattle.trace_model.specs.declared.event.LabelEvent.TheVariants as labels
use Rattle.smp_labels.specs.declared.words.LabelWords.{LabelWords}
use Rattle.smp_words.specs.declared.phase.TheConstants.{DISABLE_IRQ, RUN}

-- What a CPU's events tell: the stop that it is in, the phase that it acknowledged last since it entered, whether its function has
-- run since then, and whether its interrupts are on.
pub record Seen : Type 0 where
  pub inside : Option ℕ
  pub acked : ℕ
  pub ran : Bool
  pub irq : Bool

-- before its first event
abbrev pub unseen : Seen
unseen = record { inside = None; acked = 0; ran = false; irq = true }

-- and after one more
abbrev pub seen_if : Bool → Seen → Seen → Seen
seen_if here new old = if here then new else old

abbrev pub seen_next : ℕ → Seen → ℕ × Event → Seen
seen_next cpu v (actor, event.Stop (stops.Enter number)) = seen_if (actor == cpu) (record { inside = Some number; acked = 0; ran = false; irq = v.irq }) v
seen_next cpu v (actor, event.Stop (stops.Ack phase)) = seen_if (actor == cpu) (record v { acked = phase }) v
seen_next cpu v (actor, event.Stop (stops.Run func arg)) = seen_if (actor == cpu) (record v { ran = true }) v
seen_next cpu v (actor, event.Stop stops.Off) = seen_if (actor == cpu) (record v { irq = false }) v
seen_next cpu v (actor, event.Stop stops.On) = seen_if (actor == cpu) (record v { irq = true }) v
seen_next cpu v (actor, event.Stop (stops.Complete answer)) = seen_if (actor == cpu) (record v { inside = None }) v
seen_next cpu v _ = v

unfoldable pub seen_from : ℕ → Seen → List (ℕ × Event) → Seen
seen_from cpu v [] = v
seen_from cpu v (e ∷ es) = seen_from cpu (seen_next cpu v e) es

-- what a CPU's events tell
abbrev pub seen : ℕ → List (ℕ × Event) → Seen
seen cpu es = seen_from cpu unseen es

-- the work that the stop of a number was opened with last
abbrev pub work_next : ℕ → Option Task → ℕ × Event → Option Task
work_next number old (actor, event.Stop (stops.Open other task)) = if other == number then Some task else old
work_next number old _ = old

unfoldable pub work_from : ℕ → Option Task → List (ℕ × Event) → Option Task
work_from number old [] = old
work_from number old (e ∷ es) = work_from number (work_next number old e) es

abbrev pub work : ℕ → List (ℕ × Event) → Option Task
work number es = work_from number None es

-- A CPU is held with its interrupts off: it is in this stop, it has acknowledged DISABLE_IRQ and not EXIT, and each call
-- that began on it has ended.
pub record IsHeld (u : Setting) (es : List (ℕ × Event)) (number cpu : ℕ) : Type 0 where
  pub inside : (seen cpu es).inside ≡ Some number
  pub disabled : DISABLE_IRQ ≤ (seen cpu es).acked
  pub not_past : (seen cpu es).acked ≤ RUN
  pub irq : u.without.switches ≡ false → (seen cpu es).irq ≡ false
  pub quiet : map record_of (begins cpu es) ≡ ends cpu es

-- A CPU is at RUN of a rendezvous: it is active and has not acknowledged RUN, and all of the mask are held.
pub record IsAtRun (u : Setting) (es : List (ℕ × Event)) (number cpu : ℕ) (task : Task) : Type 0 where
  pub active : has task.active cpu ≡ true
  pub acked : (seen cpu es).acked ≡ DISABLE_IRQ
  pub all : (member : ℕ) → member < 32 → has task.mask member ≡ true → IsHeld u es number member

-- what a function that runs owes, by the kind of its stop: that of a rendezvous runs only at RUN, and a patch has none
abbrev pub RunsAt : Kind → Setting → List (ℕ × Event) → ℕ → ℕ → Task → Type 0
RunsAt One u es number cpu task = Unit {0}
RunsAt Multi u es number cpu task = IsAtRun u es number cpu task
RunsAt Patch u es number cpu task = ⊥

-- A function may run now: of the stop that the CPU is in, with the argument that was opened, once.
pub record MayRun (u : Setting) (es : List (ℕ × Event)) (cpu func arg : ℕ) : Type 0 where
  pub number : ℕ
  pub task : Task
  pub inside : (seen cpu es).inside ≡ Some number
  pub opened : work number es ≡ Some task
  pub func_is : task.func ≡ func
  pub arg_is : task.arg ≡ arg
  pub once : (seen cpu es).ran ≡ false
  pub at : RunsAt task.kind u es number cpu task

-- A patch may store now.
pub record MayStore (u : Setting) (es : List (ℕ × Event)) (cpu : ℕ) : Type 0 where
  pub number : ℕ
  pub task : Task
  pub inside : (seen cpu es).inside ≡ Some number
  pub opened : work number es ≡ Some task
  pub kind_is : task.kind ≡ Patch
  pub at : IsAtRun u es number cpu task

-- a function that runs may run: whatever event runs it
abbrev pub FunctionsRunAtRun : Type 0
FunctionsRunAtRun = (u : Setting) (words : LabelWords) (es : List (ℕ × Event)) (t : StateValue) (cpu func arg : ℕ)
    → IsTrace u words (es ++ (cpu, event.Stop (stops.Run func arg)) ∷ []) t → MayRun u es cpu func arg

-- and a patch that stores may store
abbrev pub stores : LabelEvent → Bool
stores (labels.Set key count) = true
stores (labels.Turn site jumps) = true
stores _ = false

abbrev pub PatchesStoreAtRun : Type 0
PatchesStoreAtRun = (u : Setting) (words : LabelWords) (es : List (ℕ × Event)) (t : StateValue) (cpu : ℕ) (e : LabelEvent)
    → IsTrace u words (es ++ (cpu, event.Label e) ∷ []) t → stores e ≡ true → MayStore u es cpu
