-- Which stops are open, and who holds the gate, by what the events tell.
use Rattle.std.specs.Prelude.{◌≡◌, ℕ, Bool, true, false, ◌==◌, if◌then◌else◌, List, [], ◌∷◌, ◌++◌, Option, Some, None}
use Rattle.smp_labels.specs.declared.words.LabelWords.{LabelWords}
use Rattle.trace_model.specs.declared.event.Event.{Event}
use Rattle.trace_model.specs.declared.event.Event.TheVariants as event
use Rattle.trace_model.specs.declared.event.StopEvent.{StopEvent}
use Rattle.trace_model.specs.declared.event.StopEvent.TheVariants as stops
use Rattle.trace_model.specs.declared.without.Setting.{Setting}
use Rattle.trace_model.specs.State.{StateValue}
use Rattle.trace_laws.specs.Traces.{IsTrace}

-- the stop of a number is open from an `open` of it to a `collect` of it
abbrev pub is_open_next : ℕ → Bool → ℕ × Event → Bool
is_open_next number old (actor, event.Stop (stops.Open other task)) = if other == number then true else old
is_open_next number old (actor, event.Stop (stops.Collect other answer)) = if other == number then false else old
is_open_next number old _ = old

unfoldable pub is_open_from : ℕ → Bool → List (ℕ × Event) → Bool
is_open_from number old [] = old
is_open_from number old (e ∷ es) = is_open_from number (is_open_next number old e) es

-- whether the stop of a number is open, after these events
abbrev pub is_open : ℕ → List (ℕ × Event) → Bool
is_open number es = is_open_from number false es

-- a CPU holds the gate from a `gate` of it to the next `ungate`
abbrev pub holder_next : Option ℕ → ℕ × Event → Option ℕ
holder_next old (actor, event.Stop stops.Gate) = Some actor
holder_next old (actor, event.Stop stops.Ungate) = None
holder_next old _ = old

unfoldable pub holder_from : Option ℕ → List (ℕ × Event) → Option ℕ
holder_from old [] = old
holder_from old (e ∷ es) = holder_from (holder_next old e) es

-- the CPU that holds the gate, after these events
abbrev pub holder : List (ℕ × Event) → Option ℕ
holder es = holder_from None es

-- the stop that an event opens is not open before it, and one that it enters or collects is
abbrev pub FindsStop : StopEvent → List (ℕ × Event) → Type 0
FindsStop (stops.Open number task) es = is_open number es ≡ false
FindsStop (stops.Enter number) es = is_open number es ≡ true
FindsStop (stops.Collect number answer) es = is_open number es ≡ true
FindsStop _ es = Unit {0}

-- a stop is opened only while it is not open, and entered and collected only while it is
abbrev pub StopsOpenOnce : Type 0
StopsOpenOnce = (u : Setting) (words : LabelWords) (es : List (ℕ × Event)) (t : StateValue) (cpu : ℕ) (e : StopEvent)
    → IsTrace u words (es ++ (cpu, event.Stop e) ∷ []) t → FindsStop e es

-- a CPU takes a gate that nobody holds, gives up its own, and where the gate is told it holds it to open a stop
abbrev pub FindsGate : Setting → ℕ → StopEvent → List (ℕ × Event) → Type 0
FindsGate u cpu stops.Gate es = holder es ≡ None
FindsGate u cpu stops.Ungate es = holder es ≡ Some cpu
FindsGate u cpu (stops.Open number task) es = u.without.gate ≡ false → holder es ≡ Some cpu
FindsGate u cpu _ es = Unit {0}

-- one CPU at a time holds the gate, and it alone gives it up and opens stops
abbrev pub GateIsOfOne : Type 0
GateIsOfOne = (u : Setting) (words : LabelWords) (es : List (ℕ × Event)) (t : StateValue) (cpu : ℕ) (e : StopEvent)
    → IsTrace u words (es ++ (cpu, event.Stop e) ∷ []) t → FindsGate u cpu e es
