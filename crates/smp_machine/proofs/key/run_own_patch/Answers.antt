use Rattle.std.proofs.Common.{ℕ, ap, ◌∙◌}
use Rattle.smp_stop_steps.specs.Tells.{first_readings}
use Rattle.smp_machine.proofs.Served.{own_after}
use Rattle.smp_machine.proofs.Works.{works_none}
use Rattle.smp_machine.proofs.Stopping.{works_after}
use Rattle.smp_machine.proofs.key.run_own_patch.Goals as goal

pub loop-init : goal.loop-init
loop-init g c = record {
  works = works_none g.H.Handler.leads g.F.StopFunc.leads c.args.me.now c.args.handler.now c.args.run.now;
  outside = c.requires.outside;
}

pub returns-then-run_next-clause-works : goal.returns-then-run_next-clause-works
returns-then-run_next-clause-works g c =
    works_after g.H.Handler.leads g.F.StopFunc.leads (λ o. o) c.loop.invariant.works c.run_next.ensures.works

pub returns-then-run_next-clause-read : goal.returns-then-run_next-clause-read
returns-then-run_next-clause-read g c =
    c.run_next.ensures.read c.if-run_next.true ∙ ap (λ (n : ℕ). first_readings n n c.args.work.now) c.loop.invariant.works.number_is

pub returns-then-run_next-clause-last : goal.returns-then-run_next-clause-last
returns-then-run_next-clause-last g c =
    let w = c.loop.invariant.works in
    own_after c.args.me.now c.loop.me c.run_next.new.me w.serves w.passes_number (c.run_next.ensures.last c.if-run_next.true)

pub loop-preserved : goal.loop-preserved
loop-preserved g c = record {
  works = works_after g.H.Handler.leads g.F.StopFunc.leads (λ o. o) c.loop.invariant.works c.run_next.ensures.works;
  outside = c.run_next.ensures.outside;
}
