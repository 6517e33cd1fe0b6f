use Rattle.std.proofs.Common.{Bool, Ok, subst}
use Rattle.smp_machine.specs.Counts.{Nudges}
use Rattle.smp_machine.proofs.KeyCounts.{at_gate_nudged, at_gate_refused, at_gate_patched}
use Rattle.smp_machine.proofs.key_count.count_at_gate.Goals as goal

pub returns-in-Ok-true : goal.returns-in-Ok-true
returns-in-Ok-true g c =
    let key = c.args.key in
    at_gate_nudged g.H.Handler.leads g.F.StopFunc.leads c.args.context.machine.now.stops key.k key.up c.args.me.now c.nudge.new.me c.give_gate.new.me
    c.args.handler.now c.args.run.now (subst (λ (b : Bool). Nudges key.k key.up c.args.me.now.stops c.nudge.new.me.stops (Ok b)) c.in-Ok-true.field-0-test
    c.in-Ok-true.ensures.nudges) c.nudge.ensures.rest c.requires.outside c.give_gate.ensures

pub returns-in-Ok-false : goal.returns-in-Ok-false
returns-in-Ok-false g c =
    let key = c.args.key in
    at_gate_patched g.H.Handler.leads g.F.StopFunc.leads c.args.context.machine.now.stops key.k key.up c.patch_by_one.result c.args.me.now c.nudge.new.me
    c.patch_by_one.new.me c.args.handler.now c.patch_by_one.new.handler c.args.run.now c.patch_by_one.new.run
    (subst (λ (b : Bool). Nudges key.k key.up c.args.me.now.stops c.nudge.new.me.stops (Ok b)) c.in-Ok-false.field-0-test c.in-Ok-false.ensures.nudges)
    c.nudge.ensures.rest c.patch_by_one.ensures

pub returns-in-Err : goal.returns-in-Err
returns-in-Err g c =
    let key = c.args.key in
    at_gate_refused g.H.Handler.leads g.F.StopFunc.leads c.args.context.machine.now.stops key.k key.up c.in-Err.error c.args.me.now c.nudge.new.me
    c.give_gate-in-Err.new.me c.args.handler.now c.args.run.now c.in-Err.ensures.nudges c.nudge.ensures.rest c.requires.outside c.give_gate-in-Err.ensures
