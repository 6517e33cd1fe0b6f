use Rattle.std.proofs.Common.{length}
use Rattle.view.proofs.field_domain.are_items.Given as goal

abbrev pub decreases-loop-item : goal.decreases-loop-item
decreases-loop-item l = length l.rest
