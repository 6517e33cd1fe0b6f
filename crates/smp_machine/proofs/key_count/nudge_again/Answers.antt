use Rattle.std.proofs.Common.{◌<◌, [], ◌∷◌, ◌++◌, sym, subst, ap, ◌∙◌}
use Rattle.smp_multi.specs.Names.{StopSetting}
use Rattle.smp_multi.specs.Cpu.{CpuValue}
use Rattle.smp_machine.specs.MachineCpu.{MachineCpuValue}
use Rattle.smp_machine.proofs.KeyCounts.{tries_none, place_more, stay_more, nudge_done, nudge_turns, nudge_lost, nudge_refused}
use Rattle.smp_machine.proofs.key_count.nudge_again.Goals as goal

pub loop-init : goal.loop-init
loop-init g c = record { lost = []; stay = tt; is = tries_none c.args.k c.args.me.now }

pub loop-preserved : goal.loop-preserved
loop-preserved g c =
    let i = c.loop.invariant in
    let lost = nudge_lost c.args.k c.args.up c.loop.me.stops c.try_key.new.me.stops c.in-Ok-Lost.field-0 c.in-Ok-Lost.field-0-is c.in-Ok-Lost.ensures.answers in
    record {
      lost = i.lost ++ lost.0 ∷ [];
      stay = stay_more c.args.up i.lost lost.0 i.stay lost.1;
      is = place_more c.args.k i.lost lost.0 c.args.me.now c.loop.me c.try_key.new.me i.is
          (c.try_key.ensures.rest ∙ ap (λ (s : CpuValue). record (c.loop.me) { stops = s }) lost.2);
    }

pub returns-in-Ok-Done-clause-nudges : goal.returns-in-Ok-Done-clause-nudges
returns-in-Ok-Done-clause-nudges g c =
    let i = c.loop.invariant in
    nudge_done c.args.k c.args.up i.lost i.stay c.args.me.now.stops c.loop.me.stops c.try_key.new.me.stops (ap (λ (p : MachineCpuValue). p.stops) i.is)
    c.in-Ok-Done.field-0 c.in-Ok-Done.field-0-is c.in-Ok-Done.ensures.answers

pub returns-in-Ok-Stop-clause-nudges : goal.returns-in-Ok-Stop-clause-nudges
returns-in-Ok-Stop-clause-nudges g c =
    let i = c.loop.invariant in
    nudge_turns c.args.k c.args.up i.lost i.stay c.args.me.now.stops c.loop.me.stops c.try_key.new.me.stops (ap (λ (p : MachineCpuValue). p.stops) i.is)
    c.in-Ok-Stop.field-0 c.in-Ok-Stop.field-0-is c.in-Ok-Stop.ensures.answers

pub returns-in-Err-clause-nudges : goal.returns-in-Err-clause-nudges
returns-in-Err-clause-nudges g c =
    let i = c.loop.invariant in
    let stops = ap (λ (p : MachineCpuValue). p.stops) i.is in
    let setting = ap (λ (s : CpuValue). s.setting) stops ∙ c.requires.at.stops.setting in
    nudge_refused c.args.k c.args.up i.lost i.stay c.args.me.now.stops c.loop.me.stops c.try_key.new.me.stops stops c.in-Err.error (
      subst (λ (x : StopSetting). c.args.k < x.labels.keys) (sym setting) c.requires.key,
      ap (λ (s : CpuValue). s.irq) stops ∙ (sym (ap (λ (p : MachineCpuValue). p.stops.irq) c.me.view_is)
          ∙ c.interrupts_on-on.ensures.outside (ap (λ (p : MachineCpuValue). p.stops.inside) c.me.view_is ∙ c.requires.outside)),
    )
    c.in-Err.ensures.answers
