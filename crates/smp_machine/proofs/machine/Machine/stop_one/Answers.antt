use Rattle.std.proofs.Common.{◌≡◌, ℤ, SFits, rules, subst, sym, w32}
use Rattle.std.proofs.lemmas.Int.{to_z-of_z}
use Rattle.smp_machine.specs.OwnAnswers.{HasCalledFor}
use Rattle.smp_machine.specs.MachineCpu.{MachineCpuValue}
use Rattle.smp_machine.proofs.OwnCounts.{one_itself}
use Rattle.smp_machine.proofs.Stopping.{stop_seen}
use Rattle.smp_machine.proofs.machine.Machine.stop_one.Goals as goal

pub returns-clause-ok : goal.returns-clause-ok
returns-clause-ok g c =
    let v = c.stop.result in
    let fits : SFits w32 v = search rules in
    let seen = stop_seen g.H.Handler.leads g.F.StopFunc.leads _ v c.me.view_is (to_z-of_z w32 v fits) c.stop.ensures.stopped in
    (c.one_work-work.result, c.one_work-work.ensures.work, seen)

pub returns-clause-own : goal.returns-clause-own
returns-clause-own g c =
    let v = c.stop.result in
    let fits : SFits w32 v = search rules in
    let new = c.stop.new.me in
    subst (λ (x : ℤ). c.args.dst ≡ c.args.me.now.stops.number → HasCalledFor c.args.func c.args.arg c.args.me.now.stops new.stops x)
    (sym (to_z-of_z w32 v fits))
    (subst (λ (p : MachineCpuValue). c.args.dst ≡ p.stops.number → HasCalledFor c.args.func c.args.arg p.stops new.stops v) c.me.view_is
    (one_itself c.args.func c.args.arg c.one_work-work.result c.me.inside.place.stops new.stops v c.stop.ensures.own c.args.dst c.one_work-work.ensures.work))
