use Rattle.std.proofs.Common.{◌≡◌, ℕ, ◌<◌, get_or}
use Rattle.smp_stop_steps.proofs.control.are_same_changes.Given as goal

abbrev pub invariant-loop-i : goal.invariant-loop-i
invariant-loop-i l = (j : ℕ) (d : _) → j < l.i → get_or l.one j d ≡ get_or l.other j d
