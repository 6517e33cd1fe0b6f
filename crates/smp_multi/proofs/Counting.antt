-- The steps that a CPU has made: a number on which nothing else of what it knows depends.
use Rattle.std.proofs.Common.{◌≡◌, ℕ, ◌+◌, refl, ap, ◌∙◌, arith}
use Rattle.smp_stop_steps.specs.Threads.Known.{stepped}
use Rattle.smp_stop_steps.specs.Threads.KnownAfter.{acked_by}
use Rattle.smp_multi.specs.Names.{StopRole, Free, KnownStops}
use Rattle.smp_multi.specs.Patches.{begins_with, stored_all}
use Rattle.smp_multi.specs.Rounds.{passed_by}
use Rattle.smp_multi.specs.Turns.{patched_by}

-- steps behind steps
pub steps_on : (m n : ℕ) (v : KnownStops) → stepped n (stepped m v) ≡ stepped (m + n) v
steps_on m n v = ap (λ k. record v { steps = k }) (let e : v.steps + m + n ≡ v.steps + (m + n) = omega arith in e)

pub then_steps : (m n : ℕ) (k u w : KnownStops) → u ≡ stepped m k → w ≡ stepped n u → w ≡ stepped (m + n) k
then_steps m n k u w first next = next ∙ (ap (stepped n) first ∙ steps_on m n k)

-- no step asks how many were made
module _ (n : ℕ) where
  pub acked_on : (found : ℕ) (x : StopRole) (v : KnownStops) → acked_by found x (stepped n v) ≡ stepped n (acked_by found x v)
  acked_on found Free v = refl
  acked_on found _ v = refl

  pub passed_on : (x : StopRole) (v : KnownStops) → passed_by x (stepped n v) ≡ stepped n (passed_by x v)
  passed_on Free v = refl
  passed_on _ v = refl

  pub begun_on : (count : ℕ) (x : StopRole) (v : KnownStops) → begins_with count x (stepped n v) ≡ stepped n (begins_with count x v)
  begun_on count Free v = refl
  begun_on count _ v = refl

  pub stored_on : (x : StopRole) (v : KnownStops) → stored_all x (stepped n v) ≡ stepped n (stored_all x v)
  stored_on Free v = refl
  stored_on _ v = refl

  pub patched_on : (count : ℕ) (x : StopRole) (v : KnownStops) → patched_by count x (stepped n v) ≡ stepped n (patched_by count x v)
  patched_on count Free v = refl
  patched_on count _ v = refl
