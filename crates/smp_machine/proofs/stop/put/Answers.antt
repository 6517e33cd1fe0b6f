use Rattle.std.proofs.Common.{refl, ap, ◌∙◌, subst, ℕ, [], ◌∷◌}
use Rattle.smp_multi.specs.Cpu.{CpuValue}
use Rattle.smp_machine.specs.Own.{own_of, with_put}
use Rattle.smp_machine.specs.MachineCpu.{MachineCpuValue}
use Rattle.smp_machine.specs.Stops.{item}
use Rattle.smp_machine.specs.Works.{Works}
use Rattle.smp_machine.proofs.Works.{works_none, works_as, works_from}
use Rattle.smp_machine.proofs.Stopping.{works_put, works_after}
use Rattle.smp_machine.proofs.stop.put.Goals as goal

pub loop-init : goal.loop-init
loop-init g c = record {
  works = works_none g.H.Handler.leads g.F.StopFunc.leads c.args.me.now c.args.handler.now c.args.run.now;
  stops = refl;
}

pub loop-preserved : goal.loop-preserved
loop-preserved g c =
    let full = c.try_put.ensures.full c.if-try_put.false in
    let stops = ap (λ (p : MachineCpuValue). p.stops) full ∙ c.loop.invariant.stops in
    record {
      works = works_after g.H.Handler.leads g.F.StopFunc.leads (λ o. o) c.loop.invariant.works (works_from g.H.Handler.leads g.F.StopFunc.leads full
          (works_as g.H.Handler.leads g.F.StopFunc.leads (own_of c.loop.me) (ap own_of full) c.turn.ensures.works));
      stops = (c.turn.ensures.stops.none (ap (λ (s : CpuValue). s.inside) stops ∙ c.requires.outside)).0 ∙ stops;
    }

pub returns-then-try_put-clause-works : goal.returns-then-try_put-clause-works
returns-then-try_put-clause-works g c =
    let hears = g.H.Handler.leads in
    let runs = g.F.StopFunc.leads in
    let number = ap (λ (s : CpuValue). s.number) c.loop.invariant.stops in
    works_after hears runs (with_put (item c.args.me.now.stops.number c.args.to.work.now) (c.args.to.cpu ∷ [])) c.loop.invariant.works
    (subst (λ (n : ℕ). Works hears runs c.loop.me c.loop.handler c.loop.run c.try_put.new.me c.loop.handler c.loop.run
    (with_put (item n c.args.to.work.now) (c.args.to.cpu ∷ []) (own_of c.loop.me))) number
    (works_put hears runs c.loop.me c.try_put.new.me c.loop.handler c.loop.run c.args.to.cpu (item c.loop.me.stops.number c.args.to.work.now)
    (c.try_put.ensures.put c.if-try_put.true)))
