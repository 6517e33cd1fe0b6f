use Rattle.std.proofs.Common.{slice_index, refl, arith}
use Rattle.smp_labels.specs.declared.words.TheConstants.{MOST_SITES}
use Rattle.smp_labels.proofs.Lawful.{packed_by_steps}
use Rattle.smp_labels.proofs.words.is_packed.Goals as goal

pub returns : goal.returns
returns c = (λ _. packed_by_steps (slice_index c.args.entries.now) MOST_SITES (λ j l. c.loop-i.invariant j (omega arith)), λ _. refl)
