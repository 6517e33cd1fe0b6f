use Rattle.std.proofs.Common.{◌≡◌, take}
use Rattle.smp_stop_steps.proofs.control.copy_changes.Given as goal

abbrev pub invariant-loop-change : goal.invariant-loop-change
invariant-loop-change l = l.copies.items ≡ take l.change-index l.change-items
