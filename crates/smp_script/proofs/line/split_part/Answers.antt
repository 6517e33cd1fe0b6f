use Rattle.smp_script.proofs.Names.{◌+◌, add-one, arith, take_rest}
use Rattle.smp_script.proofs.Texts.Fronts.{parts_none, parts_some}
use Rattle.smp_script.proofs.line.split_part.Goals as goal

pub returns-then-byte-mark-clause-parts : goal.returns-then-byte-mark-clause-parts
returns-then-byte-mark-clause-parts c = rw (take_rest c.args.text.now (c.loop-i.i + 1), add-one)
    (parts_some c.args.mark c.args.text.now c.loop-i.i c.loop-i-test.true (omega arith) c.loop-i.invariant)

pub returns-clause-parts : goal.returns-clause-parts
returns-clause-parts c = parts_none c.args.mark c.args.text.now (λ k h. c.loop-i.invariant k (omega arith))
