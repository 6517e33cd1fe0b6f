use Rattle.std.proofs.Common.{◌<◌, [], sym, subst, ap, ◌∙◌}
use Rattle.smp_multi.specs.Names.{StopSetting}
use Rattle.smp_machine.specs.MachineCpu.{MachineCpuValue}
use Rattle.smp_machine.proofs.KeyCounts.{tries_none, nudge_done, nudge_turns, nudge_lost, nudge_refused, nudges_after}
use Rattle.smp_machine.proofs.key_count.nudge.Goals as goal

pub returns-in-Ok-Done-clause-nudges : goal.returns-in-Ok-Done-clause-nudges
returns-in-Ok-Done-clause-nudges g c =
    nudge_done c.args.k c.args.up [] tt c.args.me.now.stops c.args.me.now.stops c.try_key.new.me.stops
    (ap (λ (p : MachineCpuValue). p.stops) (tries_none c.args.k c.args.me.now))
    c.in-Ok-Done.field-0 c.in-Ok-Done.field-0-is c.in-Ok-Done.ensures.answers

pub returns-in-Ok-Stop-clause-nudges : goal.returns-in-Ok-Stop-clause-nudges
returns-in-Ok-Stop-clause-nudges g c =
    nudge_turns c.args.k c.args.up [] tt c.args.me.now.stops c.args.me.now.stops c.try_key.new.me.stops
    (ap (λ (p : MachineCpuValue). p.stops) (tries_none c.args.k c.args.me.now))
    c.in-Ok-Stop.field-0 c.in-Ok-Stop.field-0-is c.in-Ok-Stop.ensures.answers

pub returns-in-Ok-Lost-clause-nudges : goal.returns-in-Ok-Lost-clause-nudges
returns-in-Ok-Lost-clause-nudges g c =
    let lost = nudge_lost c.args.k c.args.up c.args.me.now.stops c.try_key.new.me.stops c.in-Ok-Lost.field-0 c.in-Ok-Lost.field-0-is
    c.in-Ok-Lost.ensures.answers in
    nudges_after c.args.k c.args.up lost.0 c.args.me.now.stops c.try_key.new.me.stops c.nudge_again.new.me.stops lost.1 lost.2
    c.nudge_again.result c.nudge_again.ensures.nudges

pub returns-in-Err-clause-nudges : goal.returns-in-Err-clause-nudges
returns-in-Err-clause-nudges g c =
    nudge_refused c.args.k c.args.up [] tt c.args.me.now.stops c.args.me.now.stops c.try_key.new.me.stops
    (ap (λ (p : MachineCpuValue). p.stops) (tries_none c.args.k c.args.me.now))
    c.in-Err.error (
      subst (λ (x : StopSetting). c.args.k < x.labels.keys) (sym c.requires.at.stops.setting) c.requires.key,
      sym (ap (λ (p : MachineCpuValue). p.stops.irq) c.me.view_is)
          ∙ c.interrupts_on-on.ensures.outside (ap (λ (p : MachineCpuValue). p.stops.inside) c.me.view_is ∙ c.requires.outside),
    )
    c.in-Err.ensures.answers
