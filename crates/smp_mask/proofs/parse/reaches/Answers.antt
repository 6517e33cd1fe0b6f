use Rattle.std.proofs.Common.{sym, ◌∙◌, arith, refl}
use Rattle.smp_mask.specs.declared.mask.TheConstants.{NR_CPUS}
use Rattle.smp_mask.proofs.Reach.{reach_on, reach_end_past, reach_end_none, reach_past_width}
use Rattle.smp_mask.proofs.parse.reaches.Goals as goal
use Rattle.smp_mask.proofs.parse.reaches.Goals.{then-loop-past-test+else-least-gt0, else-loop-past-test}

pub returns-then-high-ge-NR_CPUS : goal.returns-then-high-ge-NR_CPUS
returns-then-high-ge-NR_CPUS c = sym (reach_past_width NR_CPUS _ _ c.if-high-ge-NR_CPUS.true)

pub loop-past-init : goal.loop-past-init
loop-past-init c = (c.args.low, omega arith, omega arith, refl)

pub loop-past-preserved : goal.loop-past-preserved
loop-past-preserved c =
    let i = c.loop-past.invariant in
    let on = reach_on i.0 NR_CPUS _ _ _ c.loop-past-test.true c.if-least-gt0.true i.1 i.2 in
    (on.0, on.1, omega (arith, i.2), sym on.2 ∙ i.3)

pub returns-then-low-past : goal.returns-then-low-past
returns-then-low-past c =
    let i = c.loop-past.invariant in
    reach_end_past i.0 NR_CPUS _ _ _ c.if-low-past.true ∙ i.3

pub returns-else-low-past : goal.returns-else-low-past
returns-else-low-past c =
    let i = c.loop-past.invariant in
    elim c.loop-past-test.branch [
      | then-loop-past-test+else-least-gt0 w ↦ reach_end_none i.0 NR_CPUS _ _ _ c.if-low-past.false (omega (arith, w.if-least-gt0.false)) ∙ i.3
      | else-loop-past-test w ↦ absurd (omega (arith, c.if-low-past.false, w.loop-past-test.false))
    ]
