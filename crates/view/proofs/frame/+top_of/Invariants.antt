use Rattle.std.proofs.Common.{length}
use Rattle.view.proofs.frame.+top_of.Given as goal

abbrev pub decreases-top_of : goal.decreases-top_of
decreases-top_of l = length l.lanes.now
