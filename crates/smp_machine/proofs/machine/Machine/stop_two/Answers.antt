use Rattle.std.proofs.Common.{◌≡◌, ℤ, SFits, rules, subst, sym, w32}
use Rattle.std.proofs.lemmas.Int.{to_z-of_z}
use Rattle.smp_machine.specs.OwnAnswers.{HasCalledFor}
use Rattle.smp_machine.specs.MachineCpu.{MachineCpuValue}
use Rattle.smp_machine.proofs.OwnCounts.{two_itself}
use Rattle.smp_machine.proofs.Stopping.{stop_seen}
use Rattle.smp_machine.proofs.machine.Machine.stop_two.Goals as goal

pub returns-clause-ok : goal.returns-clause-ok
returns-clause-ok g c =
    let v = c.stop.result in
    let fits : SFits w32 v = search rules in
    let seen = stop_seen g.H.Handler.leads g.F.StopFunc.leads _ v c.me.view_is (to_z-of_z w32 v fits) c.stop.ensures.stopped in
    (c.two_work-work.result, c.two_work-work.ensures.work, seen)

pub returns-clause-own : goal.returns-clause-own
returns-clause-own g c =
    let v = c.stop.result in
    let fits : SFits w32 v = search rules in
    let new = c.stop.new.me in
    let work = c.two_work-work.result in
    subst (λ (x : ℤ). c.args.a ≡ c.args.me.now.stops.number → HasCalledFor c.args.func c.args.arg c.args.me.now.stops new.stops x)
    (sym (to_z-of_z w32 v fits))
    (subst (λ (p : MachineCpuValue). c.args.a ≡ p.stops.number → HasCalledFor c.args.func c.args.arg p.stops new.stops v) c.me.view_is
    (two_itself c.args.func c.args.arg work c.me.inside.place.stops new.stops v c.stop.ensures.own c.args.a c.args.b c.two_work-work.ensures.work))
