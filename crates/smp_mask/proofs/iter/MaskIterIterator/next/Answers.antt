use Rattle.std.proofs.Common.{◌≡◌, [], arith}
use Rattle.smp_mask.specs.Mask.{members}
use Rattle.smp_mask.proofs.Members.{none_below, least_off, item_goes}
use Rattle.smp_mask.specs.declared.mask.TheConstants.{NR_CPUS}
use Rattle.smp_mask.proofs.iter.MaskIterIterator.next.Goals as goal

pub returns-in_err-cpu-clause-steps : goal.returns-in_err-cpu-clause-steps
returns-in_err-cpu-clause-steps c =
    let none : members c.args.self.now ≡ [] = rw (← c.self.view_is) (none_below _ NR_CPUS (λ k _. c.in_err-cpu.ensures.least k)) in
    rw c.from_residual.ensures ((none, none), tt)

pub returns-clause-steps : goal.returns-clause-steps
returns-clause-steps c =
    let found = c.in_ok-cpu.ensures.least in
    rw (← c.self.view_is) (
      least_off _ _ _ NR_CPUS found c.without-self-inside.ensures c.in_ok-cpu.ensures.within,
      (c.in_ok-cpu.ensures.within, grind (arith, found.passing)),
    )

pub returns-clause-goes : goal.returns-clause-goes
returns-clause-goes c =
    rw (← c.self.view_is) (item_goes _ _ _ _ _ tt (least_off _ _ _ NR_CPUS c.in_ok-cpu.ensures.least c.without-self-inside.ensures c.in_ok-cpu.ensures.within))
