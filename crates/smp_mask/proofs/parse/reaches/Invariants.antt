use Rattle.std.proofs.Common.{◌+◌, ◌-◌, ◌≡◌, ℕ, ◌<◌}
use Rattle.smp_mask.specs.declared.mask.TheConstants.{NR_CPUS}
use Rattle.smp_mask.specs.Reading.{reaches, reaches_within}
use Rattle.smp_mask.proofs.parse.reaches.Given as goal

abbrev pub invariant-loop-past : goal.invariant-loop-past
invariant-loop-past l = (k : ℕ) × (l.low < k + l.past) × (l.least < l.past)
    × (reaches_within k NR_CPUS l.low l.least l.past ≡ reaches NR_CPUS l.fn.low l.fn.high)

abbrev pub decreases-loop-past : goal.decreases-loop-past
decreases-loop-past l = l.low + 1 - l.past
