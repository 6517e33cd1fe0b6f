use Rattle.std.proofs.Common.{Bool, Ok, subst}
use Rattle.smp_machine.specs.Counts.{Nudges}
use Rattle.smp_machine.proofs.KeyCounts.{counts_nudged, counts_refused, counts_gated}
use Rattle.smp_machine.proofs.key_count.count.Goals as goal

pub returns-in-Ok-true : goal.returns-in-Ok-true
returns-in-Ok-true g c =
    let key = c.args.key in
    counts_nudged g.H.Handler.leads g.F.StopFunc.leads c.args.context.machine.now.stops key.k key.up c.args.me.now c.nudge.new.me c.args.handler.now
    c.args.run.now (subst (λ (b : Bool). Nudges key.k key.up c.args.me.now.stops c.nudge.new.me.stops (Ok b)) c.in-Ok-true.field-0-test
    c.in-Ok-true.ensures.nudges) c.nudge.ensures.rest c.requires.outside c.requires.gate

pub returns-in-Ok-false : goal.returns-in-Ok-false
returns-in-Ok-false g c =
    let key = c.args.key in
    counts_gated g.H.Handler.leads g.F.StopFunc.leads c.args.context.machine.now.stops key.k key.up c.count_by_gate.result c.args.me.now c.nudge.new.me
    c.count_by_gate.new.me c.args.handler.now c.count_by_gate.new.handler c.args.run.now c.count_by_gate.new.run
    (subst (λ (b : Bool). Nudges key.k key.up c.args.me.now.stops c.nudge.new.me.stops (Ok b)) c.in-Ok-false.field-0-test c.in-Ok-false.ensures.nudges)
    c.nudge.ensures.rest c.count_by_gate.ensures

pub returns-in-Err : goal.returns-in-Err
returns-in-Err g c =
    let key = c.args.key in
    counts_refused g.H.Handler.leads g.F.StopFunc.leads c.args.context.machine.now.stops key.k key.up c.in-Err.error c.args.me.now c.nudge.new.me
    c.args.handler.now c.args.run.now c.in-Err.ensures.nudges c.nudge.ensures.rest c.requires.outside c.requires.gate
