-- How many CPUs have a property, as sums over all CPUs.
use Rattle.std.specs.Prelude.{ℕ, zero, suc, ◌+◌, ◌==◌, cond}
pub use Rattle.smp_words.specs.Bit.{bit}
use Rattle.smp_stop_steps.specs.{Names.has, Stop.Standing, Stop.Outside, Stop.Called, Stop.Inside, Stop.Answering, Stop.Completed, Stop.is_of}

-- the sum of f over the numbers below n
unfoldable pub sum_below : (ℕ → ℕ) → ℕ → ℕ
sum_below f zero = 0
sum_below f (suc n) = f n + sum_below f n

-- 1 for a CPU of the mask that has not acknowledged p
abbrev pub behind : ℕ → Standing → ℕ
behind p Outside = 0
behind p Called = cond (0 == p) 0 1
behind p (Inside a l) = cond (a == p) 0 1
behind p (Answering a v) = cond (a == p) 0 1
behind p (Completed a v) = cond (a == p) 0 1

-- 1 for a CPU of the mask that has not completed
abbrev pub unfinished : Standing → ℕ
unfinished Outside = 0
unfinished Called = 1
unfinished (Inside a l) = 1
unfinished (Answering a v) = 1
unfinished (Completed a v) = 0

-- 1 for a CPU of the mask
abbrev pub one : Standing → ℕ
one s = bit (is_of s)

-- how many of the mask have not acknowledged p
abbrev pub count_behind : ℕ → ℕ → (ℕ → Standing) → ℕ
count_behind cpus p standing = sum_below (λ c. behind p (standing c)) cpus

-- how many of it have not completed
abbrev pub count_unfinished : ℕ → (ℕ → Standing) → ℕ
count_unfinished cpus standing = sum_below (λ c. unfinished (standing c)) cpus

-- how many are of it
abbrev pub weight : ℕ → (ℕ → Standing) → ℕ
weight cpus standing = sum_below (λ c. one (standing c)) cpus

-- how many CPUs are in a mask
abbrev pub mask_weight : ℕ → ℕ → ℕ
mask_weight cpus mask = sum_below (λ c. bit (has mask c)) cpus
