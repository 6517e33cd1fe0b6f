use Rattle.smp_script.proofs.Names.{◌≡◌, ◌-◌, length, take, Appends, inner_of, failed_of}
use Rattle.smp_script.proofs.stream.write_text.Given as goal

abbrev pub invariant-pieces : goal.invariant-pieces
invariant-pieces g l = record {
  kept : failed_of l.writer ≡ failed_of l.fn.writer;
  written : Appends (g.W.Write.contents (inner_of l.fn.writer)) (g.W.Write.contents (inner_of l.writer)) (take l.at l.text);
}

abbrev pub decreases-pieces : goal.decreases-pieces
decreases-pieces g l = length l.text - l.at
