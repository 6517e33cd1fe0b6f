-- What a CPU finds where it accepts an interrupt, looks for one or takes its queue, whom it sends one, and how it turns its own off and on.
use Rattle.std.specs.Prelude.{◌≡◌, ℕ, ◌<◌, true, false, List, [], ◌∷◌, ◌++◌}
use Rattle.smp_labels.specs.declared.words.LabelWords.{LabelWords}
use Rattle.trace_model.specs.declared.event.CallEvent.{CallEvent}
use Rattle.trace_model.specs.declared.event.CallEvent.TheVariants as calls
use Rattle.trace_model.specs.declared.event.Event.{Event}
use Rattle.trace_model.specs.declared.event.Event.TheVariants as event
use Rattle.trace_model.specs.declared.event.StopEvent.TheVariants as stops
use Rattle.trace_model.specs.declared.without.Setting.{Setting}
use Rattle.trace_model.specs.State.{StateValue}
use Rattle.trace_laws.specs.LostQueues.{accepted_from, pending_from}
use Rattle.trace_laws.specs.StopEvents.{seen}
use Rattle.trace_laws.specs.Targets.{IsThere}
use Rattle.trace_laws.specs.Traces.{IsTrace}

-- an `accept` finds an interrupt pending, an `idle` finds none, and where interrupts are told, a `take` finds one accepted
abbrev pub FindsInterrupt : Setting → ℕ → CallEvent → List (ℕ × Event) → Type 0
FindsInterrupt u cpu calls.Accept es = pending_from cpu false es ≡ true
FindsInterrupt u cpu calls.Idle es = pending_from cpu false es ≡ false
FindsInterrupt u cpu calls.Take es = u.without.interrupts ≡ false → accepted_from cpu false es ≡ true
FindsInterrupt u cpu _ es = Unit {0}

-- each of the 512 CPUs finds that
abbrev pub InterruptsTakeTurns : Type 0
InterruptsTakeTurns = (u : Setting) (words : LabelWords) (es : List (ℕ × Event)) (t : StateValue) (cpu : ℕ) (e : CallEvent)
    → IsTrace u words (es ++ (cpu, event.Call e) ∷ []) t → cpu < 512 → FindsInterrupt u cpu e es

-- an interrupt is sent to a CPU that is there
abbrev pub SendsHaveTargets : Type 0
SendsHaveTargets = (u : Setting) (words : LabelWords) (es : List (ℕ × Event)) (t : StateValue) (cpu to : ℕ)
    → IsTrace u words (es ++ (cpu, event.Call (calls.Send to)) ∷ []) t → IsThere u to

-- an `off` finds interrupts on, an `on` finds them off, and a CPU accepts one, looks for one, takes its queue and begins a call with them on
abbrev pub FindsSwitch : ℕ → Event → List (ℕ × Event) → Type 0
FindsSwitch cpu (event.Stop stops.Off) es = (seen cpu es).irq ≡ true
FindsSwitch cpu (event.Stop stops.On) es = (seen cpu es).irq ≡ false
FindsSwitch cpu (event.Call calls.Accept) es = (seen cpu es).irq ≡ true
FindsSwitch cpu (event.Call calls.Idle) es = (seen cpu es).irq ≡ true
FindsSwitch cpu (event.Call calls.Take) es = (seen cpu es).irq ≡ true
FindsSwitch cpu (event.Call (calls.Begin id func info)) es = (seen cpu es).irq ≡ true
FindsSwitch cpu _ es = Unit {0}

-- where switches are told, each CPU finds that
abbrev pub SwitchesTakeTurns : Type 0
SwitchesTakeTurns = (u : Setting) (words : LabelWords) (es : List (ℕ × Event)) (t : StateValue) (cpu : ℕ) (e : Event)
    → IsTrace u words (es ++ (cpu, e) ∷ []) t → u.without.switches ≡ false → FindsSwitch cpu e es
