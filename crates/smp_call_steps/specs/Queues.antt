-- The chain of a queue, as it is read.
use Rattle.std.specs.Prelude.{ℕ, zero, suc, ◌<◌, ◌≤◌, List, [], ◌∷◌, length, ◌++◌}
use Rattle.std.specs.List.{AllByRecursion}
use Rattle.smp_words.specs.Size.{records}
use Rattle.smp_call_steps.specs.Words.{Leads}
use Rattle.smp_call_steps.specs.Names.{Call}

-- the records of these calls
abbrev pub ids : List Call → List ℕ
ids [] = []
ids (call ∷ rest) = call.id ∷ ids rest

-- the records that the next words lead through from this link, oldest first, of at most this many
unfoldable pub chain_in : (ℕ → ℕ) → ℕ → ℕ → List ℕ
chain_in nexts zero link = []
chain_in nexts (suc n) zero = []
chain_in nexts (suc n) (suc id) = chain_in nexts n (nexts id) ++ id ∷ []

-- from this link a chain leads to its end, of no more calls than there are records
pub record HasChain (nexts : ℕ → ℕ) (link : ℕ) : Type 0 where
  pub calls : List Call
  pub leads : Leads nexts link calls 0
  pub records_are : AllByRecursion (λ call. call.id < records) calls
  pub short : length calls ≤ records
