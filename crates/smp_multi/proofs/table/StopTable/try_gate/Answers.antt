use Rattle.std.proofs.Common.{subst}
use Rattle.smp_multi.specs.Names.{Gate}
use Rattle.smp_multi.specs.Cpu.{CpuValue}
use Rattle.smp_multi.specs.Laws.{FindsHeld}
use Rattle.smp_multi.proofs.Nudging.{found_other}
use Rattle.smp_multi.proofs.Showing.{finds, rests_ungiven}
use Rattle.smp_multi.proofs.table.StopTable.try_gate.Goals as goal

pub returns-clause-busy : goal.returns-clause-busy
returns-clause-busy g c = λ lost.
    let t = c.take_gate-taken.ensures.then in
    let found = finds c.me.inside.seat Gate t.0 (rests_ungiven _ _ c.me.invariant.rests) t.1 in
    subst (λ (m : CpuValue). FindsHeld m) c.me.view_is (t.0, found, found_other t.0 0 c.take_gate-taken.result t.2 lost)
