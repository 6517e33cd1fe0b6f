-- The chain of a queue, and what is read of it.
use Rattle.std.proofs.Common.{arith, ◌≡◌, ℕ, ◌<◌, ◌≤◌, length}
use Rattle.std.specs.List.{AllByRecursion}
use Rattle.smp_words.specs.Size.{records}
use Rattle.smp_call_steps.specs.{CallState, HasChain, chain_in, ids, ControlValue, nexts_in, Word, Head}
use Rattle.smp_call_steps.specs.Shows.{Shows}
use Rattle.smp_call_steps.proofs.Basics.Alls.{every}
use Rattle.smp_call_steps.proofs.State.Chains.{chain_read}
use Rattle.smp_call_steps.proofs.Basics.Short.{length-apart}

-- each record in a queue is one that there is
pub queue_records : (a : CallState) (at : Word → ℕ) (control : ℕ → ControlValue) (cpu : ℕ) → Shows a at control
    → AllByRecursion (λ call. call.id < records) (a.queue cpu)
queue_records a at control cpu s = search (every, arith)

-- and no more calls than there are records
pub queue_short : (a : CallState) (at : Word → ℕ) (control : ℕ → ControlValue) (cpu : ℕ) → Shows a at control → length (a.queue cpu) ≤ records
queue_short a at control cpu s = length-apart records (a.queue cpu) (s.placed.queue_apart cpu) (queue_records a at control cpu s)

-- the chain of a queue
pub queue_chain : (a : CallState) (at : Word → ℕ) (control : ℕ → ControlValue) (cpu : ℕ) → Shows a at control → HasChain (nexts_in at) (at (Head cpu))
queue_chain a at control cpu s =
    record {
      calls = a.queue cpu;
      leads = s.chained.chain cpu;
      records_are = queue_records a at control cpu s;
      short = queue_short a at control cpu s;
    }

-- what is read of it is the queue
pub queue_read : (a : CallState) (at : Word → ℕ) (control : ℕ → ControlValue) (cpu : ℕ) → Shows a at control
    → chain_in (nexts_in at) records (at (Head cpu)) ≡ ids (a.queue cpu)
queue_read a at control cpu s =
    chain_read records (nexts_in at) (at (Head cpu)) (a.queue cpu)
    (length-apart records (a.queue cpu) (s.placed.queue_apart cpu) (queue_records a at control cpu s)) (s.chained.chain cpu)
