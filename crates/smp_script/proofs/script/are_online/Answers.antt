use Rattle.smp_script.proofs.Names.{◌<◌, ◌∙◌, length, sym, arith, members}
use Rattle.smp_script.proofs.Reader.Online.{limits_are}
use Rattle.smp_script.proofs.script.are_online.Goals as goal

pub returns-then-weight-gt0-clause-limits : goal.returns-then-weight-gt0-clause-limits
returns-then-weight-gt0-clause-limits c = λ h.
    let long : 0 < length (members c.args.mask) = omega (arith, c.weight.ensures.count, c.if-weight-gt0.true) in
    limits_are c.args.nr c.args.mask c.requires.some c.requires.within c.weight.ensures.width long (sym c.stays_below.ensures ∙ h)
