-- A queue that is not empty is not lost.
use Rattle.std.specs.Prelude.{◌≡◌, ◌⊎◌, ℕ, ◌<◌, Bool, true, false, not, ◌&&◌, ◌||◌, ◌==◌, if◌then◌else◌, List, [], ◌∷◌}
use Rattle.std.specs.List.{AllByRecursion}
use Rattle.smp_labels.specs.declared.words.LabelWords.{LabelWords}
use Rattle.trace_model.specs.declared.event.CallEvent.TheVariants as calls
use Rattle.trace_model.specs.declared.event.Event.{Event}
use Rattle.trace_model.specs.declared.event.Event.TheVariants as event
use Rattle.trace_model.specs.declared.without.Setting.{Setting}
use Rattle.trace_model.specs.Ending.{has_nodes, owes}
use Rattle.trace_model.specs.State.{StateValue, cpu_at}
use Rattle.trace_laws.specs.CallEvents.{takes_now}
use Rattle.trace_laws.specs.Traces.{IsTrace}

-- something joins the queue of a CPU: a call, or what shares its queue
abbrev pub joins_now : ℕ → ℕ × Event → Bool
joins_now cpu (source, event.Call (calls.Queue id to class func info)) = to == cpu
joins_now cpu (source, event.Call (calls.QueueOther to node)) = to == cpu
joins_now cpu _ = false

-- whether something is in the queue after one more event: a `take` empties it
abbrev pub filled_next : ℕ → Bool → ℕ × Event → Bool
filled_next cpu filled e = if takes_now cpu e then false else (joins_now cpu e || filled)

-- whether something has joined the queue since its last `take`
unfoldable pub filled_from : ℕ → Bool → List (ℕ × Event) → Bool
filled_from cpu filled [] = filled
filled_from cpu filled (e ∷ es) = filled_from cpu (filled_next cpu filled e) es

-- a CPU has accepted an interrupt, one is pending for it, or a CPU owes it one
abbrev pub IsSeenTo : StateValue → ℕ → Type 0
IsSeenTo t cpu = ((cpu_at t cpu).accepted ≡ true) ⊎ (((cpu_at t cpu).pending ≡ true) ⊎ ((source : ℕ) × ((source < 512) × (owes t cpu source ≡ true))))

-- Where the order is told, a CPU's queue is not empty exactly where something has joined it since its last `take`. A queue that is not
-- empty is seen to.
pub record QueueIsNotLost (u : Setting) (es : List (ℕ × Event)) (t : StateValue) (cpu : ℕ) : Type 0 where
  pub filled : u.without.order ≡ false → has_nodes (cpu_at t cpu) ≡ filled_from cpu false es
  pub seen_to : has_nodes (cpu_at t cpu) ≡ true → IsSeenTo t cpu

-- no queue is lost, where each event is of one of the 512 CPUs
abbrev pub QueuesAreNotLost : Type 0
QueuesAreNotLost = (u : Setting) (words : LabelWords) (es : List (ℕ × Event)) (t : StateValue) → IsTrace u words es t →
    AllByRecursion (λ e. e.0 < 512) es → (cpu : ℕ) → cpu < 512 → QueueIsNotLost u es t cpu

-- whether an interrupt is pending for a CPU after one more event: a `send` to it makes it so, its `accept` takes it
abbrev pub pending_next : ℕ → Bool → ℕ × Event → Bool
pending_next cpu pending (actor, event.Call (calls.Send to)) = if to == cpu then true else pending
pending_next cpu pending (actor, event.Call calls.Accept) = if actor == cpu then false else pending
pending_next cpu pending _ = pending

-- whether it has accepted one: by its `accept`, until its `take`
abbrev pub accepted_next : ℕ → Bool → ℕ × Event → Bool
accepted_next cpu accepted (actor, event.Call calls.Accept) = if actor == cpu then true else accepted
accepted_next cpu accepted (actor, event.Call calls.Take) = if actor == cpu then false else accepted
accepted_next cpu accepted _ = accepted

unfoldable pub pending_from : ℕ → Bool → List (ℕ × Event) → Bool
pending_from cpu pending [] = pending
pending_from cpu pending (e ∷ es) = pending_from cpu (pending_next cpu pending e) es

unfoldable pub accepted_from : ℕ → Bool → List (ℕ × Event) → Bool
accepted_from cpu accepted [] = accepted
accepted_from cpu accepted (e ∷ es) = accepted_from cpu (accepted_next cpu accepted e) es

-- An interrupt is pending for a CPU, and the CPU has accepted one, just where the events say so.
pub record InterruptIsTold (u : Setting) (es : List (ℕ × Event)) (t : StateValue) (cpu : ℕ) : Type 0 where
  pub pending : (cpu_at t cpu).pending ≡ pending_from cpu false es
  pub accepted : (cpu_at t cpu).accepted ≡ accepted_from cpu false es

-- whether a CPU owes another an interrupt after one more event: what it adds to an empty queue makes it owe one, its `send` there takes the debt
abbrev pub owed_next : ℕ → ℕ → Bool → Bool → ℕ × Event → Bool
owed_next cpu source filled owed (actor, event.Call (calls.Queue id to class func info)) =
    if (actor == source) && (to == cpu) && not filled then true else owed
owed_next cpu source filled owed (actor, event.Call (calls.QueueOther to node)) = if (actor == source) && (to == cpu) && not filled then true else owed
owed_next cpu source filled owed (actor, event.Call (calls.Send to)) = if (actor == source) && (to == cpu) then false else owed
owed_next cpu source filled owed _ = owed

-- whether it does after these events, where `filled` says whether something was in that queue
unfoldable pub owed_from : ℕ → ℕ → Bool → Bool → List (ℕ × Event) → Bool
owed_from cpu source filled owed [] = owed
owed_from cpu source filled owed (e ∷ es) = owed_from cpu source (filled_next cpu filled e) (owed_next cpu source filled owed e) es

-- Where the order is told, a CPU owes another an interrupt just where the events say so.
abbrev pub InterruptIsOwed : Setting → List (ℕ × Event) → StateValue → ℕ → Type 0
InterruptIsOwed u es t cpu = u.without.order ≡ false → (source : ℕ) → source < 512 → owes t cpu source ≡ owed_from cpu source false false es
