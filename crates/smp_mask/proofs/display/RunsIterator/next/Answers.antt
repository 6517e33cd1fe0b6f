use Rattle.std.proofs.Common.{◌≡◌, [], ◌∷◌, refl}
use Rattle.smp_mask.specs.ListText.{mask_items}
use Rattle.smp_mask.specs.declared.mask.TheConstants.{NR_CPUS}
use Rattle.smp_mask.proofs.Members.{none_below, item_goes}
use Rattle.smp_mask.proofs.Runs.{first_run}
use Rattle.smp_mask.proofs.display.RunsIterator.next.Goals as goal

pub returns-in_err-low-clause-steps : goal.returns-in_err-low-clause-steps
returns-in_err-low-clause-steps c =
    let none : mask_items c.args.self.now.left ≡ [] = rw (none_below _ NR_CPUS (λ k _. c.in_err-low.ensures.least k)) refl in
    rw c.from_residual.ensures (none, none)

-- the run that comes is the first item
comes : (c : goal.After-between) → mask_items c.args.self.now.left ≡ c.between.result ∷ mask_items c.above-self.result
comes c =
    let run = c.run_end-high.ensures in
    rw c.between.ensures (first_run NR_CPUS _ _ _ _ run.up c.in_ok-low.ensures.least run.all run.last c.above-self.ensures run.within)

pub returns-clause-steps : goal.returns-clause-steps
returns-clause-steps c = comes c

pub returns-clause-goes : goal.returns-clause-goes
returns-clause-goes c = item_goes (λ r. mask_items r.left) _ _ _ _ tt (comes c)
