-- Who has entered a stop, and its answers, by what the events tell.
use Rattle.std.specs.Prelude.{◌≡◌, ◌≢◌, ℕ, ◌<◌, ℤ, pos, Bool, true, false, ◌&&◌, ◌==◌, if◌then◌else◌, List, [], ◌∷◌, ◌++◌, Option, Some, None}
use Rattle.smp_labels.specs.declared.words.LabelWords.{LabelWords}
use Rattle.smp_mask.specs.Mask.{has}
use Rattle.trace_model.specs.declared.event.Event.{Event}
use Rattle.trace_model.specs.declared.event.Event.TheVariants as event
use Rattle.trace_model.specs.declared.event.StopEvent.TheVariants as stops
use Rattle.trace_model.specs.declared.stop.Task.{Task}
use Rattle.trace_model.specs.declared.without.Setting.{Setting}
use Rattle.trace_model.specs.State.{StateValue}
use Rattle.trace_laws.specs.StopEvents.{Seen, seen, seen_next, unseen, work}
use Rattle.trace_laws.specs.Traces.{IsTrace}

-- a CPU has entered the stop of a number from its `enter` of it to the next `open` of it
abbrev pub entered_next : ℕ → ℕ → Bool → ℕ × Event → Bool
entered_next number cpu old (actor, event.Stop (stops.Open other task)) = if other == number then false else old
entered_next number cpu old (actor, event.Stop (stops.Enter other)) = if (other == number) && (actor == cpu) then true else old
entered_next number cpu old _ = old

unfoldable pub entered_from : ℕ → ℕ → Bool → List (ℕ × Event) → Bool
entered_from number cpu old [] = old
entered_from number cpu old (e ∷ es) = entered_from number cpu (entered_next number cpu old e) es

-- whether a CPU has entered the stop of a number since that was opened
abbrev pub has_entered : ℕ → ℕ → List (ℕ × Event) → Bool
has_entered number cpu es = entered_from number cpu false es

-- whether the stop that a CPU is in, if any, has this number
abbrev pub is_in : Option ℕ → ℕ → Bool
is_in None number = false
is_in (Some other) number = other == number

-- a CPU's answer to the stop of a number is that of its last `complete` while it was in this stop, and an `open` of it takes that away
abbrev pub answer_next : ℕ → ℕ → Seen → Option ℤ → ℕ × Event → Option ℤ
answer_next number cpu v old (actor, event.Stop (stops.Open other task)) = if other == number then None else old
answer_next number cpu v old (actor, event.Stop (stops.Complete answer)) = if (actor == cpu) && is_in v.inside number then Some answer else old
answer_next number cpu v old _ = old

unfoldable pub answered_from : ℕ → ℕ → Seen → Option ℤ → List (ℕ × Event) → Option ℤ
answered_from number cpu v old [] = old
answered_from number cpu v old (e ∷ es) = answered_from number cpu (seen_next cpu v e) (answer_next number cpu v old e) es

-- what a CPU has answered to the stop of a number since that was opened
abbrev pub answered : ℕ → ℕ → List (ℕ × Event) → Option ℤ
answered number cpu es = answered_from number cpu unseen None es

-- A CPU may enter the stop of a number: its work calls the CPU, which is in no stop and has not entered this one since it was opened.
pub record MayEnter (es : List (ℕ × Event)) (cpu number : ℕ) : Type 0 where
  pub task : Task
  pub opened : work number es ≡ Some task
  pub called : has task.mask cpu ≡ true
  pub outside : (seen cpu es).inside ≡ None
  pub once : has_entered number cpu es ≡ false

-- a stop is entered by those that it calls, once
abbrev pub EntersAreCalled : Type 0
EntersAreCalled = (u : Setting) (words : LabelWords) (es : List (ℕ × Event)) (t : StateValue) (cpu number : ℕ)
    → IsTrace u words (es ++ (cpu, event.Stop (stops.Enter number)) ∷ []) t → MayEnter es cpu number

-- The result of a stop: each CPU of the mask has answered, and the result is 0 where all answered 0, and else an answer of one of them.
pub record IsResult (number : ℕ) (es : List (ℕ × Event)) (answer : ℤ) : Type 0 where
  pub task : Task
  pub opened : work number es ≡ Some task
  pub all : (cpu : ℕ) → cpu < 32 → has task.mask cpu ≡ true → (a : ℤ) × (answered number cpu es ≡ Some a)
  pub all_zero : answer ≡ pos 0 → (cpu : ℕ) → cpu < 32 → has task.mask cpu ≡ true → answered number cpu es ≡ Some (pos 0)
  pub given : answer ≢ pos 0 → (cpu : ℕ) × ((cpu < 32) × ((has task.mask cpu ≡ true) × (answered number cpu es ≡ Some answer)))

-- a result that is collected is of all the answers
abbrev pub ResultsAreOfAll : Type 0
ResultsAreOfAll = (u : Setting) (words : LabelWords) (es : List (ℕ × Event)) (t : StateValue) (cpu number : ℕ) (answer : ℤ)
    → IsTrace u words (es ++ (cpu, event.Stop (stops.Collect number answer)) ∷ []) t → IsResult number es answer
