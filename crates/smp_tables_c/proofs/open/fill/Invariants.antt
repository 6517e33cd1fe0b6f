use Rattle.smp_tables_c.proofs.Filling.{Filling}
use Rattle.smp_tables_c.proofs.open.fill.Given as goal

abbrev pub invariant-loop-cpu : goal.invariant-loop-cpu
invariant-loop-cpu l = Filling l.cpu l.fn.seats l.seats l.fn.cpus l.cpus
