-- Lists of calls: of a source, to a CPU, of all batches, and of the call that runs.
use Rattle.std.specs.Prelude.{ℕ, ◌==◌, if◌then◌else◌, List, [], ◌∷◌, ◌++◌}
use Rattle.smp_words.specs.Size.{owner}
use Rattle.smp_call_steps.specs.State.{Running, Nothing, SyncCall, CountedCall, AsyncCall, Sending}
use Rattle.smp_call_steps.specs.Names.{Call}

-- the calls that went to this CPU, in the order in which they were sent
abbrev pub calls_to : ℕ → List Sending → List Call
calls_to cpu [] = []
calls_to cpu (s ∷ rest) = if s.to == cpu then s.call ∷ calls_to cpu rest else calls_to cpu rest

-- the calls of this source
abbrev pub calls_from : ℕ → List Call → List Call
calls_from source [] = []
calls_from source (call ∷ rest) = if owner call.id == source then call ∷ calls_from source rest else calls_from source rest

-- the calls of all batches, one batch after the other
abbrev pub batches : List (List Call) → List Call
batches [] = []
batches (batch ∷ rest) = batch ++ batches rest

-- the call that runs
abbrev pub running_call : Running → List Call
running_call Nothing = []
running_call (SyncCall call) = call ∷ []
running_call (CountedCall call) = call ∷ []
running_call (AsyncCall call) = call ∷ []
