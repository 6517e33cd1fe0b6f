-- What a call that waits says of the calls that it made.
use Rattle.std.specs.Prelude.{ℕ, List}
use Rattle.std.specs.List.{AllByRecursion}
use Rattle.smp_words.specs.declared.call.Call.{Call}
use Rattle.smp_call_steps.specs.HaveRun.{HasCall}
use Rattle.smp_queue.specs.Cpu.{CpuValue}
use Rattle.smp_queue.specs.Laws.{CallsAreShown}

-- some words show calls of which this value is a CPU's part, and in which each of these CPUs has ended its call; that it has
-- ended as many calls by this record as it has taken or has queued is `confirmed_ended` of the first field
pub record HaveEnded (c : CpuValue) (call : ℕ → Call) (to : List ℕ) : Type 0 where
  pub is_shown : CallsAreShown c
  pub ended : AllByRecursion (λ cpu. HasCall (call cpu) (is_shown.calls.ran cpu)) to
