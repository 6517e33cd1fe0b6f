use Rattle.std.proofs.Common.{ℕ, rules, ap, ◌∙◌}
use Rattle.std.proofs.lemmas.Int.{to_z-of_z}
use mir.Syntax.{w32}
use mir.Val.{SFits}
use Rattle.smp_stop_steps.specs.Tells.{first_readings}
use Rattle.smp_machine.specs.MachineCpu.{MachineCpuValue}
use Rattle.smp_machine.proofs.KeyStops.{patch_stopped}
use Rattle.smp_machine.proofs.Served.{own_from, own_to, own_after}
use Rattle.smp_machine.proofs.key.patch.Goals as goal

pub returns-clause-stopped : goal.returns-clause-stopped
returns-clause-stopped g c =
    let v = c.collect_quietly-answer.result in
    let fits : SFits w32 v = search rules in
    patch_stopped g.H.Handler.leads g.F.StopFunc.leads c.args.work.now _ v (to_z-of_z w32 v fits) c.requires.gate c.begin.ensures c.put_to_all.ensures.works
    c.put_to_all.ensures.shown c.run_own_patch.ensures.works c.collect_quietly-answer.ensures.collected c.give_gate.ensures

pub returns-clause-read : goal.returns-clause-read
returns-clause-read g c =
    ap (λ (p : MachineCpuValue). p.stops.part.readings) c.give_gate.ensures ∙ (c.collect_quietly-answer.ensures.read ∙ (c.run_own_patch.ensures.read
    ∙ ap (λ (n : ℕ). first_readings n n c.args.work.now) (c.put_to_all.ensures.works.number_is
    ∙ ap (λ (p : MachineCpuValue). p.stops.number) c.begin.ensures)))

pub returns-clause-last : goal.returns-clause-last
returns-clause-last g c =
    let w = c.put_to_all.ensures.works in
    own_to c.args.me.now.passes c.run_own_patch.new.me.passes c.give_gate.new.me.passes
    (ap (λ (p : MachineCpuValue). p.passes) c.give_gate.ensures ∙ c.collect_quietly-answer.ensures.passes)
    (own_from c.args.me.now.passes c.begin.new.me.passes c.run_own_patch.new.me.passes (ap (λ (p : MachineCpuValue). p.passes) c.begin.ensures)
    (own_after c.begin.new.me c.put_to_all.new.me c.run_own_patch.new.me w.serves w.passes_number c.run_own_patch.ensures.last))
