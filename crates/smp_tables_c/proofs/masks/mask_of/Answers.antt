use Rattle.std.proofs.Common.{arith}
use Rattle.smp_tables_c.proofs.Bits.{all_bits}
use Rattle.smp_tables_c.proofs.masks.mask_of.Goals as goal

pub returns : goal.returns
returns c =
    let fits = c.ranges.bits.fits in
    let over = c.loop-cpu-test.false in
    all_bits c.loop-cpu.mask c.args.bits c.loop-cpu.cpu (omega arith) (omega arith) c.loop-cpu.invariant
