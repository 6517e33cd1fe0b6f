-- What the command line may ask for.
use Rattle.std.specs.Prelude.{ℕ, ◌≤◌}

-- two CPUs at least, a source and a target, and one for each number of a mask at most
abbrev pub AreThreads : ℕ → Type 0
AreThreads n = (2 ≤ n) × (n ≤ 32)

-- a workload has one thread at least, and no more than are asked for
abbrev pub AreThreadsOf : ℕ → ℕ → Type 0
AreThreadsOf asked threads = (1 ≤ threads) × (threads ≤ asked)

-- an hour at most
abbrev pub AreSeconds : ℕ → Type 0
AreSeconds n = (1 ≤ n) × (n ≤ 3600)
