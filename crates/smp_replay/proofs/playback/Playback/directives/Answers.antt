use Rattle.std.proofs.Common.{◌+◌, ◌∙◌, ap, false, arith, refl}
use Rattle.smp_script.specs.Script.{events_of}
use Rattle.smp_replay.specs.Output.{directive_after}
use Rattle.smp_replay.specs.ProgressOf.{progress_of}
use Rattle.smp_replay.proofs.Progresses.{goes_on, replay_none, replay_more, replay_end}
use Rattle.smp_replay.proofs.playback.Playback.directives.Goals as goal

pub loop-directive-init : goal.loop-directive-init
loop-directive-init g c = record { made = replay_none _; count = omega arith }

pub returns-then-branch : goal.returns-then-branch
returns-then-branch g c =
    let i = c.loop-directive.directive-index in
    let made = rw c.if-branch.true at c.in_ok-directive.ensures.made in
    let there = made ∙ ap (λ d. directive_after (progress_of c.loop-directive.self false) d) c.directive-item.is in
    replay_end _ _ c.args.directives.now (i + 1)
    (replay_more _ _ _ c.args.directives.now i c.directive-item.result c.loop-directive-test.true c.loop-directive.invariant.made there) refl

pub loop-directive-preserved : goal.loop-directive-preserved
loop-directive-preserved g c =
    let i = c.loop-directive.directive-index in
    let made = rw c.if-branch.false at c.in_ok-directive.ensures.made in
    let there = made ∙ ap (λ d. directive_after (progress_of c.loop-directive.self false) d) c.directive-item.is in
    let on =
    goes_on _ _ _ c.args.directives.now i c.directive-item.result c.loop-directive-test.true c.loop-directive.invariant.made there
    c.loop-directive.invariant.count (omega (arith, c.directive.ensures.count, ap events_of c.directive-item.is)) in
    record { made = on.0; count = on.1 }
