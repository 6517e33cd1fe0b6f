use Rattle.std.proofs.Common.{ℤ, SFits, rules, subst, sym, w32}
use Rattle.std.proofs.lemmas.Int.{to_z-of_z}
use Rattle.smp_machine.specs.OwnAnswers.{HasCalledFor}
use Rattle.smp_machine.specs.MachineCpu.{MachineValue, MachineCpuValue}
use Rattle.smp_machine.specs.Stops.{IsActiveAlone, IsMachineWork}
use Rattle.smp_machine.proofs.OwnCounts.{machine_itself}
use Rattle.smp_machine.proofs.Stopping.{stop_seen}
use Rattle.smp_machine.proofs.machine.Machine.stop_machine.Goals as goal

pub returns-clause-ok : goal.returns-clause-ok
returns-clause-ok g c =
    let v = c.stop.result in
    let fits : SFits w32 v = search rules in
    let seen = stop_seen g.H.Handler.leads g.F.StopFunc.leads _ v c.me.view_is (to_z-of_z w32 v fits) c.stop.ensures.stopped in
    let work = c.machine_work-work.result in (
      work,
      subst (λ (m : MachineValue). IsMachineWork m.stops c.args.func c.args.arg c.args.active work) c.self.view_is c.machine_work-work.ensures.work,
      seen,
    )

pub returns-clause-own : goal.returns-clause-own
returns-clause-own g c =
    let v = c.stop.result in
    let fits : SFits w32 v = search rules in
    let new = c.stop.new.me in
    let work = c.machine_work-work.result in
    let IsAlone : MachineValue → MachineCpuValue → Type 0 = λ m p. IsActiveAlone m.stops.setting.online c.args.active p.stops.number in
    subst (λ (x : ℤ). IsAlone c.args.self.now c.args.me.now → HasCalledFor c.args.func c.args.arg c.args.me.now.stops new.stops x)
    (sym (to_z-of_z w32 v fits))
    (subst (λ (p : MachineCpuValue). IsAlone c.args.self.now p → HasCalledFor c.args.func c.args.arg p.stops new.stops v) c.me.view_is
    (subst (λ (m : MachineValue). IsAlone m c.me.inside.place → HasCalledFor c.args.func c.args.arg c.me.inside.place.stops new.stops v) c.self.view_is
    (machine_itself c.args.func c.args.arg work c.me.inside.place.stops new.stops v c.stop.ensures.own _ c.args.active c.machine_work-work.ensures.work)))
