-- How many calls have run, modulo 2^64.
use Rattle.std.specs.Prelude.{◌≡◌, ℕ, ◌+◌, ◌%◌, ◌^◌, fold, List}
use Rattle.smp_queue.specs.declared.audit.Audit.{Audit}
use Rattle.smp_queue.specs.declared.audit.Audit.TheVariants.{Drained, Left}

-- a number with those of a row added
abbrev pub row_added : ℕ → List ℕ → ℕ
row_added sum row = fold (λ s n. (s + n) % 2 ^ 64) sum row

-- the numbers of all rows
abbrev pub sum_of : List (List ℕ) → ℕ
sum_of rows = fold (λ s row. row_added s row) 0 rows

-- the audit has found all calls run, this number of them
abbrev pub HaveRun : Audit → ℕ → Type 0
HaveRun (Drained tally) calls = calls ≡ sum_of tally.ran
HaveRun (Left left) calls = ⊥
