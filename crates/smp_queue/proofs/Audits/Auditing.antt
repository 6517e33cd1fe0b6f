-- What is counted and read of the closing words, so far.
use Rattle.std.proofs.Common.{◌≡◌, ℕ, zero, suc, ◌+◌, ◌<◌, ◌≤◌, Bool, true, false, cond, List, length, length-set, get_or, set, refl, ap, ◌∙◌, subst, inl}
use Rattle.std.proofs.Common.{inr, arith}
use Rattle.std.proofs.lemmas.Bool.{cases_eq}
use Rattle.std.proofs.lemmas.List.{get_or-set_same, get_or-set_other}
use Rattle.std.specs.Int.{from_bool}
use Rattle.smp_words.specs.Size.{cpus}
use Rattle.smp_queue.specs.{Word, Queued, Ran, Left, Tally, count_below, has_head, has_lock, has_hand, tally_at}

pub count_zero : (test : ℕ → Bool) → count_below test 0 ≡ 0
unfolding count_below
count_zero test = refl

-- one number more is counted where it passes
pub count_more : (test : ℕ → Bool) (n : ℕ) → count_below test (n + 1) ≡ count_below test n + cond (test n) 1 0
unfolding count_below
count_more test n = let same : suc n ≡ n + 1 = omega arith in subst (λ (k : ℕ). count_below test k ≡ count_below test n + cond (test n) 1 0) same refl

at_most_one : (b : Bool) → cond b 1 0 ≤ 1
at_most_one true = omega arith
at_most_one false = omega arith

pub count_bound : (test : ℕ → Bool) (n : ℕ) → count_below test n ≤ n
unfolding count_below
count_bound test zero = omega arith
count_bound test (suc n) = let h = count_bound test n in let b = at_most_one (test n) in omega arith

none_here : (b : Bool) (n : ℕ) → n + cond b 1 0 ≡ 0 → b ≡ false
none_here true n e = absurd (omega arith)
none_here false n e = refl

-- where none is counted, none passes
pub count_none : (test : ℕ → Bool) (n k : ℕ) → count_below test n ≡ 0 → k < n → test k ≡ false
unfolding count_below
count_none test zero k e l = absurd (omega arith)
count_none test (suc n) k e l = elim (cases_eq k n) [
  | inl same ↦ ap test same ∙ none_here (test n) (count_below test n) e
  | inr other ↦ count_none test n k (let h = e in omega arith) (omega arith)
]

byte-cond : (b : Bool) → from_bool b ≡ cond b 1 0
byte-cond true = refl
byte-cond false = refl

-- the same of a count that is kept
pub counted_more : (test : ℕ → Bool) (n count more : ℕ) (b : Bool) → count ≡ count_below test n → more ≡ from_bool b → b ≡ test n
    → count + more ≡ count_below test (n + 1)
counted_more test n count more b e f g = search (byte-cond, count_more, arith)

-- it stays small
pub counted_small : (test : ℕ → Bool) (n count more : ℕ) (b : Bool) → count ≡ count_below test n → more ≡ from_bool b → count + more ≤ n + 1
counted_small test n count more b e f = search (byte-cond, count_bound, at_most_one, arith)

-- the heads and handling words of the CPUs below n are counted
pub record CountsCpus (at : Word → ℕ) (n : ℕ) (left : Left) : Type 0 where
  pub heads : left.heads ≡ count_below (has_head at) n
  pub handling : left.handling ≡ count_below (has_hand at) n
  pub locked : left.locked ≡ 0

-- and then those of all CPUs, and the records below n
pub record CountsRecords (at : Word → ℕ) (n : ℕ) (left : Left) : Type 0 where
  pub heads : left.heads ≡ count_below (has_head at) cpus
  pub handling : left.handling ≡ count_below (has_hand at) cpus
  pub locked : left.locked ≡ count_below (has_lock at) n

-- the numbers of the CPUs below n are read
pub record Reads (number : ℕ → ℕ) (n : ℕ) (row : List ℕ) : Type 0 where
  pub sized : length row ≡ cpus
  pub each : (cpu : ℕ) → cpu < n → get_or row cpu 0 ≡ number cpu

pub reads_more : (number : ℕ → ℕ) (n x : ℕ) (row : List ℕ) → n < cpus → x ≡ number n → Reads number n row → Reads number (n + 1) (set row n x)
reads_more number n x row l e r = search (length-set, cases_eq, get_or-set_same, get_or-set_other, arith)

-- the rows of the CPUs below n are read
pub record ReadsRows (number : ℕ → ℕ → ℕ) (n : ℕ) (rows : List (List ℕ)) : Type 0 where
  pub sized : length rows ≡ cpus
  pub each : (cpu other : ℕ) → cpu < n → other < cpus → tally_at rows cpu other ≡ number cpu other

-- both kinds
pub record ReadsTally (at : Word → ℕ) (n : ℕ) (tally : Tally) : Type 0 where
  pub queued : ReadsRows (λ source to. at (Queued source to)) n tally.queued
  pub ran : ReadsRows (λ cpu source. at (Ran cpu source)) n tally.ran
