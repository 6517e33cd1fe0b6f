-- In which order calls run: a batch by class, and of each class as they were queued.
use Rattle.std.specs.Prelude.{◌≡◌, ℕ, List, ◌∷◌, ◌++◌}
use Rattle.std.specs.List.{AllByRecursion}
use Rattle.smp_call_steps.specs.Order.{of_class, order}
use Rattle.smp_call_steps.specs.State.{CallState}
use Rattle.smp_call_steps.specs.Headline.{RunInOrder}
use Rattle.smp_call_steps.specs.Shows.{Shows}
use Rattle.smp_call_steps.specs.Stages.{ControlValue}
use Rattle.smp_call_steps.specs.Names.{Call, Class, Async, Word}

-- in the drain order of a batch the calls of each class keep the order of the batch
abbrev pub KeepsClasses : List Call → Type 0
KeepsClasses batch = (class : Class) → of_class class (order batch) ≡ of_class class batch

-- and after an ASYNC call come only ASYNC calls
abbrev pub AsyncsLast : List Call → Type 0
AsyncsLast batch = (before : List Call) (call : Call) (after : List Call) →
    order batch ≡ before ++ call ∷ after → call.class ≡ Async → AllByRecursion (λ other. other.class ≡ Async) after

-- calls begin in the order in which they joined the queue, and join it in the order in which they were sent
abbrev pub RunInQueueOrder : Type 0
RunInQueueOrder = (a : CallState) (at : Word → ℕ) (control : ℕ → ControlValue) → Shows a at control → RunInOrder a
