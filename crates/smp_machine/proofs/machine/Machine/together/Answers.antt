use Rattle.std.proofs.Common.{ap, ◌∙◌}
use Rattle.smp_queue.specs.Together.{RunsWhatIsSent}
use Rattle.smp_multi.specs.Together.{AreInStep, WaitsFor}
use Rattle.smp_machine.specs.MachineCpu.{MachineCpuValue}
use Rattle.smp_machine.proofs.Headline.{of_both}
use Rattle.smp_machine.proofs.machine.Machine.together.Goals as goal

pub returns-clause-runs : goal.returns-clause-runs
returns-clause-runs g c =
    let one = ap (λ w. w.place.calls) c.one-inside.view_is ∙ ap (λ (p : MachineCpuValue). p.calls) c.one.view_is in
    let other = ap (λ w. w.place.calls) c.other-inside.view_is ∙ ap (λ (p : MachineCpuValue). p.calls) c.other.view_is in
    let runs = c.calls_together.ensures.runs in
    (of_both RunsWhatIsSent one other runs.0, of_both RunsWhatIsSent other one runs.1)

pub returns-clause-step : goal.returns-clause-step
returns-clause-step g c = of_both AreInStep (ap (λ w. w.place.stops) c.one-inside.view_is ∙ ap (λ (p : MachineCpuValue). p.stops) c.one.view_is)
    (ap (λ w. w.place.stops) c.other-inside.view_is ∙ ap (λ (p : MachineCpuValue). p.stops) c.other.view_is) c.together.ensures.step

pub returns-clause-waits : goal.returns-clause-waits
returns-clause-waits g c =
    let one = ap (λ w. w.place.stops) c.one-inside.view_is ∙ ap (λ (p : MachineCpuValue). p.stops) c.one.view_is in
    let other = ap (λ w. w.place.stops) c.other-inside.view_is ∙ ap (λ (p : MachineCpuValue). p.stops) c.other.view_is in
    let waits = c.together.ensures.waits in
    (of_both WaitsFor one other waits.0, of_both WaitsFor other one waits.1)
