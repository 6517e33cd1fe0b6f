use Rattle.std.proofs.Common.{◌≡◌, true, drop}
use Rattle.smp_mask.specs.declared.mask.TheConstants.{NR_CPUS}
use Rattle.smp_mask.specs.Reading.{is_live, read_from, mask_of_text}
use Rattle.smp_mask.proofs.parse.read.Given as goal

abbrev pub invariant-loop-i : goal.invariant-loop-i
invariant-loop-i l = (is_live NR_CPUS l.reader.place ≡ true) × (read_from NR_CPUS l.reader l.i (drop l.i l.text) ≡ mask_of_text NR_CPUS l.text)
