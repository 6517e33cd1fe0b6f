-- What a CPU does while it waits: it takes its interrupts, and runs what was queued for it.
use Rattle.std.specs.Prelude.{◌≡◌, Bool, true, false, Option, Some, None, List, [], ◌∷◌, ◌++◌}
use Rattle.smp_call_steps.specs.Histories.{orders}
use Rattle.smp_words.specs.declared.call.Call.{Call}
use Rattle.smp_queue.specs.Cpu.{CpuValue}
use Rattle.smp_queue.specs.Handling.{Grows}
use Rattle.smp_queue.specs.declared.handler.Heard.{Heard}

-- what the looks at the interrupt word found, of looks that each took a batch or found nothing
abbrev pub looks : List (Option (List Call)) → List Bool
looks [] = []
looks (None ∷ rest) = false ∷ looks rest
looks (Some batch ∷ rest) = true ∷ looks rest

-- the batches that they took
abbrev pub batches : List (Option (List Call)) → List (List Call)
batches [] = []
batches (None ∷ rest) = batches rest
batches (Some batch ∷ rest) = batch ∷ batches rest

-- from one value to the other a CPU has looked for interrupts once for each turn, has taken and run a batch wherever one was
-- pending, and its handler has run just these calls
pub record Handles {H : Type 0} (leads : H → Heard → H → Type 0) (old : CpuValue) (before : H) (new : CpuValue) (after : H) : Type 0 where
  pub turns : List (Option (List Call))
  pub asked_is : new.part.asked ≡ old.part.asked ++ looks turns
  pub taken_is : new.part.taken ≡ old.part.taken ++ batches turns
  pub ran_is : new.part.ran ≡ old.part.ran ++ orders (batches turns)
  pub grows : Grows leads before (orders (batches turns)) after
