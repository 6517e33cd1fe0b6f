use Rattle.std.proofs.Common.{◌≡◌, ℕ, ◌+◌, ◌<◌, get_or}
use Rattle.smp_labels.proofs.words.is_packed.Given as goal

abbrev pub invariant-loop-i : goal.invariant-loop-i
invariant-loop-i l = (j : ℕ) → j + 1 < l.i → get_or l.entries j 0 ≡ 0 → get_or l.entries (j + 1) 0 ≡ 0
