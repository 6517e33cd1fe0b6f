-- What a CPU has queued and sent.
use Rattle.std.specs.Prelude.{◌≡◌, ℕ, List, ◌++◌}
use Rattle.smp_words.specs.declared.call.Call.{Call}
use Rattle.smp_queue.specs.Cpu.{CpuValue}
use Rattle.smp_calls.specs.Queued.{Queued, destinations, sendings, calls_and_interrupts}

-- a CPU has queued one call for each of these CPUs, and then sent one interrupt to each of them whose queue was empty; it has
-- made no direct call
pub record CallsOnce (old new : CpuValue) (call : ℕ → Call) (to : List ℕ) : Type 0 where
  pub queued : List Queued
  pub destinations_are : destinations queued ≡ to
  pub sent_is : new.part.sent ≡ old.part.sent ++ sendings call queued
  pub log_is : new.log ≡ old.log ++ calls_and_interrupts queued
  pub direct_is : new.direct ≡ old.direct
