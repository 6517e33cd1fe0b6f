use Rattle.std.proofs.Common.{◌≡◌, ◌++◌}
use Rattle.std.specs.Vec.Iter.{into_iter_items}
use Rattle.load.specs.Ends.{reported, returned}
use Rattle.load.proofs.torture.launch.put_reports.Given as goal

abbrev pub invariant-loop-one : goal.invariant-loop-one
invariant-loop-one l = reported l.reports.items ++ returned (into_iter_items l.one-iterator) ≡ reported l.fn.reports.items ++ returned l.fn.played.items
