-- The work that a stop is opened with, and how its CPUs acknowledge and raise its phases and complete it, by what the events tell.
use Rattle.std.specs.Prelude.{◌≡◌, ◌≢◌, ℕ, ◌+◌, ◌<◌, ◌≤◌, ℤ, pos, true, false, ◌&&◌, ◌==◌, if◌then◌else◌, List, [], ◌∷◌, ◌++◌, Option, Some, None}
use Rattle.smp_labels.specs.declared.words.LabelWords.{LabelWords}
use Rattle.smp_mask.specs.Mask.{has}
use Rattle.smp_words.specs.declared.work.Kind.{Kind}
use Rattle.smp_words.specs.declared.work.Kind.TheVariants.{Multi, One, Patch}
use Rattle.trace_model.specs.declared.event.Event.{Event}
use Rattle.trace_model.specs.declared.event.Event.TheVariants as event
use Rattle.trace_model.specs.declared.event.StopEvent.TheVariants as stops
use Rattle.trace_model.specs.declared.stop.Task.{Task}
use Rattle.trace_model.specs.declared.without.Setting.{Setting}
use Rattle.trace_model.specs.State.{StateValue}
use Rattle.trace_laws.specs.StopEvents.{Seen, seen, seen_next, unseen, work}
use Rattle.trace_laws.specs.StopResults.{is_in}
use Rattle.trace_laws.specs.Traces.{IsTrace}

-- One CPU below 32 alone is in a mask.
pub record IsAlone (mask cpu : ℕ) : Type 0 where
  pub below : cpu < 32
  pub member : has mask cpu ≡ true
  pub alone : (other : ℕ) → other < 32 → has mask other ≡ true → other ≡ cpu

-- A patch is of all CPUs online, the least of them is active, alone, and there are its key and its change, one of the four.
pub record IsPatch (u : Setting) (task : Task) : Type 0 where
  pub mask_is : task.mask ≡ u.online
  pub cpu : ℕ
  pub active : IsAlone task.active cpu
  pub online : has u.online cpu ≡ true
  pub least : (other : ℕ) → has u.online other ≡ true → cpu ≤ other
  pub key : task.func < u.keys
  pub change : task.arg ≤ 3

-- what a work is of, by the kind of its stop: one CPU alone, some CPU, or all CPUs of a patch
abbrev pub IsOf : Kind → Setting → Task → Type 0
IsOf One u task = (cpu : ℕ) × IsAlone task.mask cpu
IsOf Multi u task = (cpu : ℕ) × ((cpu < 32) × (has task.mask cpu ≡ true))
IsOf Patch u task = IsPatch u task

-- A stop may be opened with a work: it is of such CPUs, and each of them is online.
pub record MayOpen (u : Setting) (task : Task) : Type 0 where
  pub of : IsOf task.kind u task
  pub online : (cpu : ℕ) → cpu < 32 → has task.mask cpu ≡ true → has u.online cpu ≡ true

-- a stop is opened only so
abbrev pub WorksAreOfOnline : Type 0
WorksAreOfOnline = (u : Setting) (words : LabelWords) (es : List (ℕ × Event)) (t : StateValue) (cpu number : ℕ) (task : Task)
    → IsTrace u words (es ++ (cpu, event.Stop (stops.Open number task)) ∷ []) t → MayOpen u task

-- the phase that a CPU has acknowledged last in the stop of a number: its `ack` while it is in this stop tells that, and an `open` of it takes that away
abbrev pub acked_next : ℕ → ℕ → Seen → ℕ → ℕ × Event → ℕ
acked_next number cpu v old (actor, event.Stop (stops.Open other task)) = if other == number then 0 else old
acked_next number cpu v old (actor, event.Stop (stops.Ack phase)) = if (actor == cpu) && is_in v.inside number then phase else old
acked_next number cpu v old _ = old

unfoldable pub acked_from : ℕ → ℕ → Seen → ℕ → List (ℕ × Event) → ℕ
acked_from number cpu v old [] = old
acked_from number cpu v old (e ∷ es) = acked_from number cpu (seen_next cpu v e) (acked_next number cpu v old e) es

-- the last phase that a CPU has acknowledged in the stop of a number since that was opened, or 0
abbrev pub acked_in : ℕ → ℕ → List (ℕ × Event) → ℕ
acked_in number cpu es = acked_from number cpu unseen 0 es

-- What the events tell of the phase of a stop: the one raised last, 1 PREPARE at first, and the CPU that was the last to acknowledge since then, if any.
pub record Turn : Type 0 where
  pub phase : ℕ
  pub last : Option ℕ

-- nobody has acknowledged this phase
abbrev pub turned_to : ℕ → Turn
turned_to phase = record { phase = phase; last = None }

abbrev pub acked_last : ℕ → Turn → Turn
acked_last cpu old = record old { last = Some cpu }

-- an `ack` and a `raise` are of the stop that their CPU is in
abbrev pub turn_next : ℕ → (ℕ → Seen) → Turn → ℕ × Event → Turn
turn_next number views old (actor, event.Stop (stops.Open other task)) = if other == number then turned_to 1 else old
turn_next number views old (actor, event.Stop (stops.Ack phase)) = if is_in (views actor).inside number then acked_last actor old else old
turn_next number views old (actor, event.Stop (stops.Raise phase)) = if is_in (views actor).inside number then turned_to phase else old
turn_next number views old _ = old

unfoldable pub turn_from : ℕ → (ℕ → Seen) → Turn → List (ℕ × Event) → Turn
turn_from number views old [] = old
turn_from number views old (e ∷ es) = turn_from number (λ cpu. seen_next cpu (views cpu) e) (turn_next number views old e) es

-- the phase of the stop of a number since that was opened
abbrev pub turn : ℕ → List (ℕ × Event) → Turn
turn number es = turn_from number (λ cpu. unseen) (turned_to 1) es

-- A CPU may acknowledge a phase of the rendezvous that it is in: the next to the one that it acknowledged last, where each CPU of the mask has
-- acknowledged the one before, and where raises are told this one is raised. At 2 DISABLE_IRQ its interrupts are off where switches are told, and at
-- 3 RUN its function has run, if it is active and makes no patch.
pub record MayAck (u : Setting) (es : List (ℕ × Event)) (cpu phase : ℕ) : Type 0 where
  pub number : ℕ
  pub task : Task
  pub inside : (seen cpu es).inside ≡ Some number
  pub opened : work number es ≡ Some task
  pub round : task.kind ≢ One
  pub next : acked_in number cpu es + 1 ≡ phase
  pub all : (member : ℕ) → member < 32 → has task.mask member ≡ true → phase ≤ acked_in number member es + 1
  pub raised : u.without.raises ≡ false → (turn number es).phase ≡ phase
  pub disabled : phase ≡ 2 → u.without.switches ≡ false → (seen cpu es).irq ≡ false
  pub ran : phase ≡ 3 → task.kind ≡ Multi → has task.active cpu ≡ true → (seen cpu es).ran ≡ true

-- a phase is acknowledged only so
abbrev pub AcksAreInTurn : Type 0
AcksAreInTurn = (u : Setting) (words : LabelWords) (es : List (ℕ × Event)) (t : StateValue) (cpu phase : ℕ)
    → IsTrace u words (es ++ (cpu, event.Stop (stops.Ack phase)) ∷ []) t → MayAck u es cpu phase

-- A CPU may raise a phase, once: each CPU of the mask of the rendezvous that it is in has acknowledged the one before, and it was the last to do so.
pub record MayRaise (es : List (ℕ × Event)) (cpu phase : ℕ) : Type 0 where
  pub number : ℕ
  pub task : Task
  pub inside : (seen cpu es).inside ≡ Some number
  pub opened : work number es ≡ Some task
  pub round : task.kind ≢ One
  pub next : acked_in number cpu es + 1 ≡ phase
  pub all : (member : ℕ) → member < 32 → has task.mask member ≡ true → phase ≤ acked_in number member es + 1
  pub once : (turn number es).phase + 1 ≡ phase
  pub last : (turn number es).last ≡ Some cpu

-- a phase is raised only so
abbrev pub RaisesAreInTurn : Type 0
RaisesAreInTurn = (u : Setting) (words : LabelWords) (es : List (ℕ × Event)) (t : StateValue) (cpu phase : ℕ)
    → IsTrace u words (es ++ (cpu, event.Stop (stops.Raise phase)) ∷ []) t → MayRaise es cpu phase

-- A CPU is through a rendezvous: it has acknowledged 4 EXIT, and where switches are told its interrupts are on.
pub record IsThrough (u : Setting) (es : List (ℕ × Event)) (number cpu : ℕ) : Type 0 where
  pub acked : 4 ≤ acked_in number cpu es
  pub irq : u.without.switches ≡ false → (seen cpu es).irq ≡ true

-- what a CPU that completes has done, by the kind of its stop: its function has run, or it is through
abbrev pub HasDone : Kind → Setting → List (ℕ × Event) → ℕ → ℕ → Type 0
HasDone One u es number cpu = (seen cpu es).ran ≡ true
HasDone Multi u es number cpu = IsThrough u es number cpu
HasDone Patch u es number cpu = IsThrough u es number cpu

-- A CPU may complete the stop that it is in, with 0 where its function has not run and it makes no patch.
pub record MayComplete (u : Setting) (es : List (ℕ × Event)) (cpu : ℕ) (answer : ℤ) : Type 0 where
  pub number : ℕ
  pub task : Task
  pub inside : (seen cpu es).inside ≡ Some number
  pub opened : work number es ≡ Some task
  pub done : HasDone task.kind u es number cpu
  pub zero : task.kind ≢ Patch → (seen cpu es).ran ≡ false → answer ≡ pos 0

-- a stop is completed only so
abbrev pub CompletesAreThrough : Type 0
CompletesAreThrough = (u : Setting) (words : LabelWords) (es : List (ℕ × Event)) (t : StateValue) (cpu : ℕ) (answer : ℤ)
    → IsTrace u words (es ++ (cpu, event.Stop (stops.Complete answer)) ∷ []) t → MayComplete u es cpu answer

-- A CPU may turn its interrupts off or on: it is in a rendezvous.
pub record MaySwitch (es : List (ℕ × Event)) (cpu : ℕ) (AtPhase : ℕ → Type 0) : Type 0 where
  pub number : ℕ
  pub task : Task
  pub inside : (seen cpu es).inside ≡ Some number
  pub opened : work number es ≡ Some task
  pub round : task.kind ≢ One
  pub at : AtPhase (acked_in number cpu es)

-- interrupts are turned off where 1 PREPARE is acknowledged last
abbrev pub OffsAreAtPrepare : Type 0
OffsAreAtPrepare = (u : Setting) (words : LabelWords) (es : List (ℕ × Event)) (t : StateValue) (cpu : ℕ)
    → IsTrace u words (es ++ (cpu, event.Stop stops.Off) ∷ []) t → MaySwitch es cpu (λ phase. phase ≡ 1)

-- and on once 4 EXIT is
abbrev pub OnsAreAtExit : Type 0
OnsAreAtExit = (u : Setting) (words : LabelWords) (es : List (ℕ × Event)) (t : StateValue) (cpu : ℕ)
    → IsTrace u words (es ++ (cpu, event.Stop stops.On) ∷ []) t → MaySwitch es cpu (λ phase. 4 ≤ phase)

-- a CPU turns its interrupts off and on only so
abbrev pub SwitchesAreAtPhases : Type 0
SwitchesAreAtPhases = OffsAreAtPrepare × OnsAreAtExit
