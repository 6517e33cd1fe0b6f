use Rattle.std.proofs.Common.{◌≡◌, ◌&&◌, ℕ, nat_lt}
use Rattle.smp_mask.specs.Mask.{has}
use Rattle.smp_tables_c.proofs.masks.mask_of.Given as goal

abbrev pub invariant-loop-cpu : goal.invariant-loop-cpu
invariant-loop-cpu l = (c : ℕ) → has l.mask c ≡ (nat_lt c l.cpu && has l.bits c)
