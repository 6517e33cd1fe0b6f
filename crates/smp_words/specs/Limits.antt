-- The CPUs of a table: how many there may be, and which are online.
use Rattle.std.specs.Prelude.{◌≡◌, ℕ, ◌<◌, ◌≤◌, true}
use Rattle.smp_mask.specs.Mask.{has}
use Rattle.smp_words.specs.Size.{cpus}

-- at least one CPU and no more than there can be; some of them online, and no other
pub record AreLimits (nr online : ℕ) : Type 0 where
  pub some : 0 < nr
  pub within : nr ≤ cpus
  pub member : (cpu : ℕ) × (has online cpu ≡ true)
  pub below : (cpu : ℕ) → has online cpu ≡ true → cpu < nr
