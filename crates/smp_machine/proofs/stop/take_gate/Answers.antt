use Rattle.std.proofs.Common.{true, [], ◌∷◌, ◌∙◌}
use Rattle.smp_stop_steps.specs.declared.known.OwnMove.TheVariants.{Took}
use Rattle.smp_machine.specs.Own.{Own, with_gate, with_moves}
use Rattle.smp_machine.proofs.Works.{works_none}
use Rattle.smp_machine.proofs.Stopping.{works_take, works_tried, works_after, tried_inside}
use Rattle.smp_machine.proofs.stop.take_gate.Goals as goal

pub loop-init : goal.loop-init
loop-init g c = record {
  works = works_none g.H.Handler.leads g.F.StopFunc.leads c.args.me.now c.args.handler.now c.args.run.now;
  outside = c.requires.outside;
}

pub returns-then-try_in_turn-clause-works : goal.returns-then-try_in_turn-clause-works
returns-then-try_in_turn-clause-works g c =
    works_after g.H.Handler.leads g.F.StopFunc.leads (λ (o : Own). with_moves (Took ∷ []) (with_gate true o)) c.loop.invariant.works
    (works_take g.H.Handler.leads g.F.StopFunc.leads c.loop.me c.try_in_turn.new.me c.loop.handler c.loop.run
    (c.try_in_turn.ensures.taken c.if-try_in_turn.true))

pub returns-then-try_in_line-clause-works : goal.returns-then-try_in_line-clause-works
returns-then-try_in_line-clause-works g c =
    let hears = g.H.Handler.leads in
    let runs = g.F.StopFunc.leads in
    let tried = works_tried hears runs c.loop.me c.try_in_turn.new.me c.loop.handler c.loop.run (c.try_in_turn.ensures.held c.if-try_in_turn.false) in
    let polled = works_after hears runs (λ o. o) c.loop.invariant.works (works_after hears runs (λ o. o) tried c.poll-found.ensures.works) in
    works_after hears runs (λ (o : Own). with_moves (Took ∷ []) (with_gate true o)) polled
    (works_take hears runs c.poll-found.new.me c.try_in_line.new.me c.poll-found.new.handler c.poll-found.new.run
    (c.try_in_line.ensures.taken c.if-try_in_line.true))

pub loop-preserved : goal.loop-preserved
loop-preserved g c =
    let hears = g.H.Handler.leads in
    let runs = g.F.StopFunc.leads in
    let tried = works_tried hears runs c.loop.me c.try_in_turn.new.me c.loop.handler c.loop.run (c.try_in_turn.ensures.held c.if-try_in_turn.false) in
    let polled = works_after hears runs (λ o. o) c.loop.invariant.works (works_after hears runs (λ o. o) tried c.poll-found.ensures.works) in
    let again = works_tried hears runs c.poll-found.new.me c.try_in_line.new.me c.poll-found.new.handler c.poll-found.new.run
    (c.try_in_line.ensures.held c.if-try_in_line.false) in
    record {
      works = works_after hears runs (λ o. o) polled again;
      outside = tried_inside (c.try_in_line.ensures.held c.if-try_in_line.false) ∙ c.poll-found.ensures.outside;
    }
