use Rattle.std.proofs.Common.{refl}
use Rattle.smp_queue.proofs.Handling.Running.{runs_more}
use Rattle.smp_queue.proofs.handle.run_batch.Goals as goal

pub loop-here-preserved : goal.loop-here-preserved
loop-here-preserved g c =
    runs_more g.H.Handler.leads c.args.context.words.shared.now.table_id c.args.seat.now c.loop-here.seat c.run_one-here.new.seat c.loop-here.here
    c.run_one-here.result _ c.loop-here.counts c.run_one-here.new.counts c.args.handler.now c.loop-here.handler
    c.run_one-here.new.handler c.loop-here.invariant c.run_one-here.ensures.run

pub loop-here-2-preserved : goal.loop-here-2-preserved
loop-here-2-preserved g c =
    let one = c.run_one-here-in-Some-Second in (
      runs_more g.H.Handler.leads c.args.context.words.shared.now.table_id c.args.seat.now c.loop-here-2.seat one.new.seat c.loop-here-2.here one.result _
          c.loop-here-2.counts one.new.counts c.args.handler.now c.loop-here-2.handler one.new.handler c.loop-here-2.invariant.0 one.ensures.run,
      one.ensures.second refl,
    )
