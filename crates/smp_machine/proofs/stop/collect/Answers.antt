use Rattle.std.proofs.Common.{rules, ℤ, [], ◌∷◌, ap, sym, subst, ◌∙◌}
use Rattle.std.proofs.lemmas.Int.{to_z-of_z}
use mir.Syntax.{w32}
use mir.Val.{SFits}
use Rattle.smp_stop_steps.specs.declared.known.OwnMove.TheVariants.{Collected}
use Rattle.smp_multi.specs.Answers.{IsWholeWord}
use Rattle.smp_machine.specs.Own.{Own, own_of, with_collected, with_moves}
use Rattle.smp_machine.specs.Works.{Works}
use Rattle.smp_machine.specs.MachineCpu.{MachineCpuValue}
use Rattle.smp_machine.proofs.Works.{works_none}
use Rattle.smp_machine.proofs.Stopping.{works_after, works_collect, works_looked}
use Rattle.smp_machine.proofs.stop.collect.Goals as goal

pub loop-init : goal.loop-init
loop-init g c = record {
  works = works_none g.H.Handler.leads g.F.StopFunc.leads c.args.me.now c.args.handler.now c.args.run.now;
  outside = c.requires.outside;
}

pub loop-preserved : goal.loop-preserved
loop-preserved g c =
    let hears = g.H.Handler.leads in
    let runs = g.F.StopFunc.leads in
    let looked = works_looked hears runs c.loop.me c.look_done.new.me c.loop.handler c.loop.run c.in-None-look_done.ensures in record {
      works = subst (λ (x : MachineCpuValue). Works hears runs c.args.me.now c.args.handler.now c.args.run.now x c.poll-found.new.handler c.poll-found.new.run
          (own_of c.args.me.now)) (sym c.note_late.ensures)
          (works_after hears runs (λ o. o) c.loop.invariant.works (works_after hears runs (λ o. o) looked c.poll-found.ensures.works));
      outside = ap (λ (x : MachineCpuValue). x.stops.inside) c.note_late.ensures ∙ c.poll-found.ensures.outside;
    }

pub returns-in-Some-look_done : goal.returns-in-Some-look_done
returns-in-Some-look_done g c =
    let d = c.in-Some-look_done.ensures in
    let fits : SFits w32 c.in-Some-look_done.answer = search rules in
    let back = to_z-of_z w32 c.in-Some-look_done.answer fits in
    record {
      word = d.0;
      answer_is = back ∙ d.1;
      whole = subst (λ (z : ℤ). IsWholeWord z d.0) (sym back) d.4;
      works = works_after g.H.Handler.leads g.F.StopFunc.leads (λ (o : Own). with_moves (Collected d.0 ∷ []) (with_collected d.0 o)) c.loop.invariant.works
          (works_collect g.H.Handler.leads g.F.StopFunc.leads c.loop.me c.look_done.new.me c.loop.handler c.loop.run d.0 d.2);
      result = d.3;
      outside = ap (λ (p : MachineCpuValue). p.stops.inside) d.2 ∙ c.loop.invariant.outside;
    }
