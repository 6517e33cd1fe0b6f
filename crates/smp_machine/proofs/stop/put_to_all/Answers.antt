use Rattle.std.proofs.Common.{refl, ap, ℕ, [], ◌++◌, ◌∷◌, sym, ◌∙◌, subst}
use Rattle.smp_mask.specs.Mask.{members}
use Rattle.smp_calls.proofs.Passes.{Passed, passed_none, passed_more, passed_all}
use Rattle.smp_machine.specs.Passes.{note_of}
use Rattle.smp_machine.specs.Own.{Own}
use Rattle.smp_machine.specs.Stops.{item}
use Rattle.smp_machine.proofs.Works.{works_none}
use Rattle.smp_machine.proofs.Stopping.{works_more, works_all, shown_none, shown_more, shown_at}
use Rattle.smp_machine.proofs.stop.put_to_all.Goals as goal

pub loop-cpu-init : goal.loop-cpu-init
loop-cpu-init g c = record {
  xs = [];
  passed = subst (λ (left : ℕ). Passed c.args.work.now.mask left []) (sym (c.into_iter-cpu-iterator.ensures.into_iter_gives ∙ c.iter-cpu-items.ensures))
      (passed_none c.args.work.now.mask);
  works = works_none g.H.Handler.leads g.F.StopFunc.leads c.args.me.now c.args.handler.now c.args.run.now;
  stops = refl;
  shown = shown_none c.args.me.now.passes;
}

pub loop-cpu-preserved : goal.loop-cpu-preserved
loop-cpu-preserved g c =
    let a = c.loop-cpu.invariant in record {
      xs = a.xs ++ c.in-Some.cpu ∷ [];
      passed = passed_more c.args.work.now.mask c.loop-cpu.cpu-iterator c.next.new.self c.in-Some.cpu a.xs a.passed c.in-Some.ensures.steps.0;
      works = works_more g.H.Handler.leads g.F.StopFunc.leads c.args.work.now a.xs c.in-Some.cpu a.works c.put.ensures.works;
      stops = c.put.ensures.stops ∙ a.stops;
      shown = shown_more (item c.loop-cpu.me.stops.number c.args.work.now) (note_of c.loop-cpu.me.stops c.loop-cpu.me.passes) a.xs c.in-Some.cpu
          c.loop-cpu.me.passes c.put.new.me.passes c.put.ensures.works.passes_number (ap (λ (o : Own). o.put) c.put.ensures.works.own_is)
          (ap (λ (o : Own). o.noted) c.put.ensures.works.own_is) a.shown c.put.ensures.shown;
    }

pub returns-clause-works : goal.returns-clause-works
returns-clause-works g c =
    let a = c.loop-cpu.invariant in
    works_all g.H.Handler.leads g.F.StopFunc.leads (item c.args.me.now.stops.number c.args.work.now) a.xs (members c.args.work.now.mask)
    (passed_all c.args.work.now.mask c.loop-cpu.cpu-iterator a.xs a.passed c.in-None.ensures.steps.0.0) a.works

pub returns-clause-shown : goal.returns-clause-shown
returns-clause-shown g c =
    let a = c.loop-cpu.invariant in
    shown_at c.loop-cpu.me.passes c.loop-cpu.me.passes
    (passed_all c.args.work.now.mask c.loop-cpu.cpu-iterator a.xs a.passed c.in-None.ensures.steps.0.0) refl refl refl a.shown
