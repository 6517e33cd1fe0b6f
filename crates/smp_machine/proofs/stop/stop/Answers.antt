use Rattle.std.proofs.Common.{rules}
use Rattle.std.proofs.lemmas.Int.{to_z-of_z}
use mir.Syntax.{w32}
use mir.Val.{SFits}
use Rattle.smp_machine.specs.Moves.{stop_moves}
use Rattle.smp_machine.proofs.OwnCounts.{stop_itself}
use Rattle.smp_machine.proofs.Stopping.{stop_queued, stop_long, stop_short, stop_as}
use Rattle.smp_machine.proofs.stop.stop.Goals as goal

pub returns-in-UntilDone-clause-stopped : goal.returns-in-UntilDone-clause-stopped
returns-in-UntilDone-clause-stopped g c =
    let v = c.collect-answer.result in
    let fits : SFits w32 v = search rules in
    stop_as g.H.Handler.leads g.F.StopFunc.leads c.in-UntilDone.is
    (stop_long g.H.Handler.leads g.F.StopFunc.leads c.args.job.work.now _ v (to_z-of_z w32 v fits)
    (stop_queued g.H.Handler.leads g.F.StopFunc.leads c.args.job.work.now c.take_gate.ensures.works c.begin.ensures c.put_to_all.ensures.works)
    c.put_to_all.ensures.shown c.collect-answer.ensures c.give_gate.ensures)

pub returns-in-UntilDone-clause-own : goal.returns-in-UntilDone-clause-own
returns-in-UntilDone-clause-own g c =
    stop_itself g.H.Handler.leads g.F.StopFunc.leads (stop_moves c.args.job.holds) c.args.job.work.now _ c.is_shown.ensures.shown
    c.is_shown-in-UntilDone.ensures.shown c.requires.collected c.requires.outside (returns-in-UntilDone-clause-stopped g c)

pub returns-in-UntilQueued-clause-stopped : goal.returns-in-UntilQueued-clause-stopped
returns-in-UntilQueued-clause-stopped g c =
    let v = c.collect-answer-in-UntilQueued.result in
    let fits : SFits w32 v = search rules in
    stop_as g.H.Handler.leads g.F.StopFunc.leads c.in-UntilQueued.is
    (stop_short g.H.Handler.leads g.F.StopFunc.leads c.args.job.work.now _ v (to_z-of_z w32 v fits)
    (stop_queued g.H.Handler.leads g.F.StopFunc.leads c.args.job.work.now c.take_gate.ensures.works c.begin.ensures c.put_to_all.ensures.works)
    c.put_to_all.ensures.shown c.give_gate-in-UntilQueued.ensures c.collect-answer-in-UntilQueued.ensures)

pub returns-in-UntilQueued-clause-own : goal.returns-in-UntilQueued-clause-own
returns-in-UntilQueued-clause-own g c =
    stop_itself g.H.Handler.leads g.F.StopFunc.leads (stop_moves c.args.job.holds) c.args.job.work.now _ c.is_shown.ensures.shown
    c.is_shown-in-UntilQueued.ensures.shown c.requires.collected c.requires.outside (returns-in-UntilQueued-clause-stopped g c)
