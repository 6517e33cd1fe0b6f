use Rattle.std.proofs.Common.{◌≡◌, ℕ, ◌<◌, ◌≤◌, true, ◌-◌}
use Rattle.smp_mask.specs.Mask.{has}
use Rattle.smp_mask.specs.declared.mask.TheConstants.{NR_CPUS}
use Rattle.smp_mask.proofs.display.run_end.Given as goal

abbrev pub invariant-loop-mask : goal.invariant-loop-mask
invariant-loop-mask l = (l.low ≤ l.high) × (l.high < NR_CPUS) × ((c : ℕ) → l.low ≤ c → c ≤ l.high → has l.mask c ≡ true)

abbrev pub decreases-loop-mask : goal.decreases-loop-mask
decreases-loop-mask l = NR_CPUS - l.high
