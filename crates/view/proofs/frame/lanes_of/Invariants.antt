use Rattle.std.proofs.Common.{◌≡◌, ◌++◌, drop}
use Rattle.view.specs.Frame.{lanes_from}
use Rattle.view.proofs.frame.lanes_of.Given as goal

abbrev pub invariant-loop-cpu : goal.invariant-loop-cpu
invariant-loop-cpu g l = record {
  lanes : l.found.items ++ lanes_from l.rows l.top (drop l.cpu-index l.cpus) ≡ lanes_from l.rows 0 l.cpus;
}
