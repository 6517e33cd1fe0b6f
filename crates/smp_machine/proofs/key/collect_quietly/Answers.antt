use Rattle.std.proofs.Common.{rules, ℤ, [], ◌∷◌, refl, ap, sym, subst, ◌∙◌}
use Rattle.std.proofs.lemmas.Int.{to_z-of_z}
use mir.Syntax.{w32}
use mir.Val.{SFits}
use Rattle.smp_multi.specs.Cpu.{CpuValue}
use Rattle.smp_stop_steps.specs.declared.known.OwnMove.TheVariants.{Collected}
use Rattle.smp_multi.specs.Answers.{IsWholeWord}
use Rattle.smp_machine.specs.Own.{Own, with_collected, with_moves}
use Rattle.smp_machine.specs.MachineCpu.{MachineCpuValue}
use Rattle.smp_machine.proofs.Works.{works_none}
use Rattle.smp_machine.proofs.Stopping.{works_after, works_collect, works_looked}
use Rattle.smp_machine.proofs.key.collect_quietly.Goals as goal

pub loop-init : goal.loop-init
loop-init g c = record {
  works = works_none g.H.Handler.leads g.F.StopFunc.leads c.args.me.now c.args.handler.now c.args.run.now;
  outside = c.requires.outside;
  read = refl;
  passes = refl;
}

pub loop-preserved : goal.loop-preserved
loop-preserved g c =
    let same = c.in-None-look_done.ensures in
    let hears = g.H.Handler.leads in
    let runs = g.F.StopFunc.leads in
    let looked = works_looked hears runs c.loop.me c.look_done.new.me c.loop.handler c.loop.run same in
    let stops = ap (λ (p : MachineCpuValue). p.stops) same in
    let inside = ap (λ (s : CpuValue). s.inside) stops ∙ c.loop.invariant.outside in
    let still = (c.turn_and_tell-interrupted.ensures.stops.none inside).0 in
    record {
      works = works_after hears runs (λ o. o) c.loop.invariant.works (works_after hears runs (λ o. o) looked c.turn_and_tell-interrupted.ensures.works);
      outside = ap (λ (s : CpuValue). s.inside) still ∙ inside;
      read = ap (λ (s : CpuValue). s.part.readings) still ∙ (ap (λ (s : CpuValue). s.part.readings) stops ∙ c.loop.invariant.read);
      passes = c.turn_and_tell-interrupted.ensures.passes ∙ (ap (λ (p : MachineCpuValue). p.passes) same ∙ c.loop.invariant.passes);
    }

pub returns-in-Some-look_done-clause-collected : goal.returns-in-Some-look_done-clause-collected
returns-in-Some-look_done-clause-collected g c =
    let d = c.in-Some-look_done.ensures in
    let fits : SFits w32 c.in-Some-look_done.answer = search rules in
    let back = to_z-of_z w32 c.in-Some-look_done.answer fits in
    record {
      word = d.0;
      answer_is = back ∙ d.1;
      whole = subst (λ (z : ℤ). IsWholeWord z d.0) (sym back) d.4;
      works = works_after g.H.Handler.leads g.F.StopFunc.leads (λ (o : Own). with_moves (Collected d.0 ∷ []) (with_collected d.0 o)) c.loop.invariant.works
          (works_collect g.H.Handler.leads g.F.StopFunc.leads c.loop.me c.look_done.new.me c.loop.handler c.loop.run d.0 d.2);
      result = d.3;
      outside = ap (λ (p : MachineCpuValue). p.stops.inside) d.2 ∙ c.loop.invariant.outside;
    }

pub returns-in-Some-look_done-clause-read : goal.returns-in-Some-look_done-clause-read
returns-in-Some-look_done-clause-read g c =
    ap (λ (p : MachineCpuValue). p.stops.part.readings) c.in-Some-look_done.ensures.2 ∙ c.loop.invariant.read

pub returns-in-Some-look_done-clause-passes : goal.returns-in-Some-look_done-clause-passes
returns-in-Some-look_done-clause-passes g c = ap (λ (p : MachineCpuValue). p.passes) c.in-Some-look_done.ensures.2 ∙ c.loop.invariant.passes
