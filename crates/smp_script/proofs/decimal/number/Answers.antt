use Rattle.std.proofs.Common.{◌∙◌, arith}
use Rattle.smp_script.proofs.Texts.Digits.{number_more}
use Rattle.smp_script.proofs.decimal.number.Goals as goal

pub loop-byte-preserved : goal.loop-byte-preserved
loop-byte-preserved c =
    let e = number_more c.args.text.now c.loop-byte.byte-index c.loop-byte.value 18446744073709551616 (omega arith) (omega arith)
    (omega arith) c.loop-byte.invariant.0 c.loop-byte.invariant.1 in
    (e.0, c.min-value.ensures ∙ e.1)
