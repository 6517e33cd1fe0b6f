-- Which CPUs are online.
use Rattle.smp_script.proofs.Names.{◌≡◌, ℕ, ◌<◌, ◌≤◌, ◌^◌, length, true, arith, get_or, members, NR_CPUS, item_member, is_cpu, stays_below}
use Rattle.smp_words.specs.Limits.{AreLimits}
use Rattle.smp_script.proofs.Reader.Widths.{member_below}

-- some CPU online and none from nr on are a core's limits
pub limits_are : (nr mask : ℕ) → 1 ≤ nr → nr ≤ NR_CPUS → mask < 2 ^ NR_CPUS → 0 < length (members mask) → stays_below nr mask ≡ true → AreLimits nr mask
limits_are nr mask some within set long below = record {
  some = omega arith;
  within = omega arith;
  member = (get_or (members mask) 0 0, (item_member mask NR_CPUS 0 0 long).1);
  below = member_below nr mask (λ cpu h. is_cpu NR_CPUS mask cpu set h) below;
}
