use Rattle.std.proofs.Common.{◌≡◌, take}
use Rattle.smp_words.proofs.same.copy_all.Given as goal

abbrev pub invariant-loop-value : goal.invariant-loop-value
invariant-loop-value g l = l.copies.items ≡ take l.value-index l.values
