use Rattle.std.proofs.Common.{ap, ◌∙◌, subst}
use Rattle.smp_machine.specs.Passes.{PassesValue}
use Rattle.smp_machine.specs.MachineCpu.{MachineValue, MachineCpuValue}
use Rattle.smp_machine.specs.Takes.{TakesNext}
use Rattle.smp_machine.proofs.Served.{next_front}
use Rattle.smp_machine.proofs.take.take_front.Goals as goal

pub invariant_of-me-2 : goal.invariant_of-me-2
invariant_of-me-2 g c =
    let i = c.me.invariant in record {
      stops_number = c.enter_front.ensures.number ∙ i.stops_number;
      passes_number = ap (λ (p : PassesValue). p.number) c.in_ok-item.ensures.0 ∙ i.passes_number;
      not_left = c.enter_front.ensures.not_left;
      irq_is = c.enter_front.ensures.irq;
    }

pub returns : goal.returns
returns g c =
    let took = c.in_ok-item.ensures in
    let new : MachineCpuValue = record { calls = c.me.inside.calls; stops = c.enter_front.new.me; passes = c.take.new.me; heard_at = c.me.inside.heard.at } in
    let m : MachineValue = record { calls = c.machine.inside.calls; stops = c.machine.inside.stops; queues = c.machine.inside.queues } in
    subst (λ (y : MachineValue). TakesNext y c.args.me.now new c.enter_front.result) c.machine.view_is
    (subst (λ (p : MachineCpuValue). TakesNext m p new c.enter_front.result) c.me.view_is
    (next_front m c.me.inside.calls c.me.inside.heard.at c.me.inside.stops c.enter_front.new.me c.me.inside.passes c.take.new.me c.in_ok-item.item
    c.enter_front.result took.0 took.1
    c.enter_front.ensures.stops))
