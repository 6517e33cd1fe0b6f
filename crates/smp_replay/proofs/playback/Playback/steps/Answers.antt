use Rattle.std.proofs.Common.{◌+◌, arith, refl}
use Rattle.smp_replay.proofs.Progresses.{steps_none, steps_more, steps_end}
use Rattle.smp_replay.proofs.playback.Playback.steps.Goals as goal

pub loop-step-init : goal.loop-step-init
loop-step-init g c = record { made = steps_none _ _; count = omega arith }

pub returns-then-branch-clause-made : goal.returns-then-branch-clause-made
returns-then-branch-clause-made g c =
    let made = rw c.if-branch.true at c.in_ok-event.ensures.made in
    steps_end _ _ c.args.cpu (c.loop-step._step + 1) c.args.count (steps_more _ _ _ c.args.cpu c.loop-step._step c.loop-step.invariant.made made) refl
    (omega arith)

pub loop-step-preserved : goal.loop-step-preserved
loop-step-preserved g c =
    let made = rw c.if-branch.false at c.in_ok-event.ensures.made in
    record {
      made = steps_more _ _ _ c.args.cpu c.loop-step._step c.loop-step.invariant.made made;
      count = omega (arith, c.event.ensures.count, c.loop-step.invariant.count);
    }
