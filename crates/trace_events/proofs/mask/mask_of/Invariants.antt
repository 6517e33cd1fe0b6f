-- The mask has the CPUs so far that the word has.
use Rattle.std.proofs.Common.{◌≡◌, ℕ, ◌&&◌, nat_lt}
use Rattle.smp_mask.specs.Mask.{has}
use Rattle.trace_events.proofs.mask.mask_of.Given as goal

abbrev pub invariant-loop-cpu : goal.invariant-loop-cpu
invariant-loop-cpu l = (c : ℕ) → has l.mask c ≡ (nat_lt c l.cpu && has l.word c)
