-- What a trace of version 3 tells that one of version 2 does not.
use Rattle.std.specs.Prelude.{◌≡◌, ℕ, ℤ, true, false, List, [], ◌∷◌, ◌++◌, Ok, Err, codes}
use Rattle.std.specs.Fmt.{decimal}
use Rattle.smp_mask.specs.declared.error.Cause.TheVariants.{Word}
use Rattle.smp_words.specs.declared.call.Class.TheVariants.{Async}
use Rattle.smp_script.specs.Fields.{word32}
use Rattle.trace_events.specs.Text.{call_text}
use Rattle.trace_judge.specs.Reading.{class_in, numbered, queue_line}
use Rattle.trace_model.specs.declared.event.CallEvent.TheVariants as calls
use Rattle.trace_model.specs.declared.event.Event.TheVariants as event
use Rattle.trace_model.specs.declared.event.OtherNode.TheVariants as node
use Rattle.trace_model.specs.declared.event.StopEvent.TheVariants as stops
use Rattle.trace_model.specs.declared.stop.Task.{Task}
use Rattle.trace_model.specs.declared.without.Setting.{Setting}

-- in version 3, without the order of queues and without unlocks, a class may be unknown: it is read as ASYNC, and elsewhere it is a wrong word
pub record UnknownIsAsync : Type 0 where
  pub read : (u : Setting) → u.is_third ≡ true → u.without.order ≡ true → u.without.unlocks ≡ true → class_in u (codes "unknown") ≡ Ok Async
  pub second : (u : Setting) → u.is_third ≡ false → class_in u (codes "unknown") ≡ Err Word
  pub ordered : (u : Setting) → u.without.order ≡ false → class_in u (codes "unknown") ≡ Err Word
  pub unlocked : (u : Setting) → u.without.unlocks ≡ false → class_in u (codes "unknown") ≡ Err Word

-- in version 3 a wake and irq work may join the queue of a CPU, by these words; in version 2 the line has too few fields
pub record OthersAreThird : Type 0 where
  pub wake : (u : Setting) (to : List ℕ) (d : ℕ) → u.is_third ≡ true → word32 to ≡ Ok d
      → queue_line u (to ∷ codes "wake" ∷ []) ≡ Ok (Ok (event.Call (calls.QueueOther d node.Wake)))
  pub irq_work : (u : Setting) (to : List ℕ) (d : ℕ) → u.is_third ≡ true → word32 to ≡ Ok d
      → queue_line u (to ∷ codes "irqwork" ∷ []) ≡ Ok (Ok (event.Call (calls.QueueOther d node.IrqWork)))
  pub second : (u : Setting) (to word : List ℕ) → u.is_third ≡ false → queue_line u (to ∷ word ∷ []) ≡ Err Word
  pub wake_written : (d : ℕ) → call_text (calls.QueueOther d node.Wake) ≡ codes "queue " ++ decimal d ++ codes " " ++ codes "wake"
  pub irq_work_written : (d : ℕ) → call_text (calls.QueueOther d node.IrqWork) ≡ codes "queue " ++ decimal d ++ codes " " ++ codes "irqwork"

-- the stop that a line of version 2 opens or collects has the number of its CPU, and one of version 3 the number that is told
pub record StopsAreNumbered : Type 0 where
  pub opened : (cpu number : ℕ) (task : Task) → numbered false cpu (event.Stop (stops.Open number task)) ≡ event.Stop (stops.Open cpu task)
  pub collected : (cpu number : ℕ) (answer : ℤ)
      → numbered false cpu (event.Stop (stops.Collect number answer)) ≡ event.Stop (stops.Collect cpu answer)
  pub told : (cpu number : ℕ) (task : Task) → numbered true cpu (event.Stop (stops.Open number task)) ≡ event.Stop (stops.Open number task)
  pub result : (cpu number : ℕ) (answer : ℤ)
      → numbered true cpu (event.Stop (stops.Collect number answer)) ≡ event.Stop (stops.Collect number answer)
