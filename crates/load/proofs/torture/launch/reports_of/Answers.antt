use Rattle.std.proofs.Common.{List, subst, sym}
use Rattle.smp_machine.specs.MachineCpu.{MachineCpuValue, IsAt}
use Rattle.load.specs.Ends.{AreAt}
use Rattle.load.proofs.Ending.{last_at}
use Rattle.load.proofs.torture.launch.reports_of.Goals as goal

pub returns-clause-at : goal.returns-clause-at
returns-clause-at c =
    let m = c.args.machine.now in
    subst (λ (x : MachineCpuValue). IsAt m x) (sym c.in_ok-last.ensures.cpu)
    (last_at m c.pop.new.self.items c.in-Some.back (subst (λ (xs : List _). AreAt m xs) c.in-Some.ensures.items c.requires.at))
