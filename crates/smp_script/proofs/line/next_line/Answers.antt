use Rattle.smp_script.proofs.Names.{◌+◌, rules, add-one, arith, length, take_rest, drop-length}
use Rattle.smp_script.proofs.Texts.Fronts.{lines_some, lines_none}
use Rattle.smp_script.proofs.line.next_line.Goals as goal

pub returns-then-byte-eq10-clause-lines : goal.returns-then-byte-eq10-clause-lines
returns-then-byte-eq10-clause-lines c =
    rw (take_rest c.args.text.now (c.loop-i.i + 1), add-one) (lines_some c.args.text.now c.loop-i.i c.loop-i-test.true (omega arith) c.loop-i.invariant)

pub returns-clause-lines : goal.returns-clause-lines
returns-clause-lines c =
    rw (take_rest c.args.text.now (length c.args.text.now), drop-length) (lines_none c.args.text.now (search rules) (λ k h. c.loop-i.invariant k (omega arith)))
