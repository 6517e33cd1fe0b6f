use Rattle.std.proofs.Common.{arith, refl, ◌≡◌, suc, ◌+◌}
use Rattle.smp_mask.specs.declared.mask.TheConstants.{NR_CPUS}
use Rattle.smp_mask.proofs.Sets.{run_bits, run_below}
use Rattle.smp_mask.proofs.mask.CpuMask.with_run.Goals as goal

pub invariant_of-result : goal.invariant_of-result
invariant_of-result c = rw (run_bits c.args.low c.args.high c.requires.run (omega (arith, c.requires.within)))
    (run_below NR_CPUS _ _ _ c.self.invariant c.requires.within)

pub returns : goal.returns
returns c =
    let next : c.args.high + 1 ≡ suc c.args.high = omega arith in
    rw (run_bits c.args.low c.args.high c.requires.run (omega (arith, c.requires.within)), next, ← c.self.view_is) refl
