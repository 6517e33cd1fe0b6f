-- How many calls by one record were queued, and how many have run.
use Rattle.std.specs.Prelude.{◌≡◌, ℕ, ◌==◌, true, List, [], ◌∷◌, ◌++◌, count_by}
use Rattle.smp_words.specs.Size.{owner}
use Rattle.smp_call_steps.specs.State.{CallState, Running, AsyncCall}
use Rattle.smp_call_steps.specs.Names.{Call}
pub use Rattle.smp_call_steps.specs.Lists.{batches}

-- how many calls of the list are by this record
abbrev pub calls_by : ℕ → List Call → ℕ
calls_by id calls = count_by (λ call. call.id == id) calls

-- the ASYNC call that runs
abbrev pub async_call : Running → List Call
async_call (AsyncCall call) = call ∷ []
async_call _ = []

-- Where a source has seen the last call of its record confirmed, each CPU has run as many calls by that record as
-- were ever queued for it; the last of them may run still, as an ASYNC call.
abbrev pub ConfirmedCallsRan : CallState → Type 0
ConfirmedCallsRan a = (id cpu : ℕ) → a.confirmed (owner id) id ≡ true →
    calls_by id (batches (a.taken cpu) ++ a.queue cpu) ≡ calls_by id (a.ran cpu ++ async_call (a.running cpu))
