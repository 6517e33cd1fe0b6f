use Rattle.smp_script.proofs.Names.{◌≡◌, ◌+◌, ◌-◌, ◌≤◌, false, vec_len, Consumes, inner_of, failed_of}
use Rattle.smp_script.proofs.stream.read_up_to.Given as goal

abbrev pub invariant-pieces : goal.invariant-pieces
invariant-pieces g l = (failed_of l.reader ≡ false) × (vec_len l.text ≤ l.most + 1)
    × Consumes (g.R.Read.remaining (inner_of l.fn.reader)) (g.R.Read.remaining (inner_of l.reader)) l.text.items

abbrev pub decreases-pieces : goal.decreases-pieces
decreases-pieces g l = l.most + 1 - vec_len l.text
