-- The calls that a family queues.
use Rattle.std.specs.Prelude.{ℕ, Bool, false, ◌||◌, ◌==◌, if◌then◌else◌, List, [], ◌∷◌, ◌++◌}
use Rattle.smp_call_steps.specs.declared.known.Sending.{Sending}
use Rattle.smp_call_steps.specs.declared.known.Logged.{Logged}
use Rattle.smp_call_steps.specs.declared.known.Logged.TheVariants as logged
use Rattle.smp_words.specs.declared.call.Call.{Call}

-- a call that was queued: for which CPU, and whether that CPU's queue was empty
pub record Queued : Type 0 where
  pub to : ℕ
  pub is_first : Bool

-- the CPUs that the calls are for, in order
abbrev pub destinations : List Queued → List ℕ
destinations [] = []
destinations (q ∷ qs) = q.to ∷ destinations qs

-- of these the CPUs whose queue was empty
abbrev pub firsts : List Queued → List ℕ
firsts [] = []
firsts (q ∷ qs) = if q.is_first then q.to ∷ firsts qs else firsts qs

-- what a CPU logs that queues a call for each of these CPUs
abbrev pub calls_to : List ℕ → List Logged
calls_to [] = []
calls_to (c ∷ cs) = logged.Queued c ∷ calls_to cs

-- what a CPU logs that sends an interrupt to each of these CPUs
abbrev pub interrupts_to : List ℕ → List Logged
interrupts_to [] = []
interrupts_to (c ∷ cs) = logged.Interrupted c ∷ interrupts_to cs

-- what a CPU logs of these calls: all are queued, and then one interrupt is sent to each CPU whose queue was empty
abbrev pub calls_and_interrupts : List Queued → List Logged
calls_and_interrupts queued = calls_to (destinations queued) ++ interrupts_to (firsts queued)

-- whether a CPU is in a list
abbrev pub is_in : ℕ → List ℕ → Bool
is_in c [] = false
is_in c (x ∷ xs) = x == c || is_in c xs

-- whether one of the calls was the first in this CPU's queue
abbrev pub is_first_to : ℕ → List Queued → Bool
is_first_to c queued = is_in c (firsts queued)

-- the calls as their source has sent them, where this is the call for each destination
abbrev pub sendings : (ℕ → Call) → List Queued → List Sending
sendings call [] = []
sendings call (q ∷ qs) = record { call = call q.to; to = q.to; is_first = q.is_first } ∷ sendings call qs

-- whether this record is that of one of these CPUs
abbrev pub is_by : (ℕ → ℕ) → ℕ → List ℕ → Bool
is_by record_for id [] = false
is_by record_for id (x ∷ xs) = id == record_for x || is_by record_for id xs

-- whether one of the calls is by this record
abbrev pub is_used : (ℕ → Call) → ℕ → List Queued → Bool
is_used call id queued = is_by (λ to. (call to).id) id (destinations queued)
