use Rattle.std.proofs.Common.{sym}
use Rattle.smp_words.proofs.Sizes.{near, far}
use Rattle.smp_words.proofs.size.record_of.Goals as goal

pub returns-then-local-lt-FIRST_OF_ONE : goal.returns-then-local-lt-FIRST_OF_ONE
returns-then-local-lt-FIRST_OF_ONE c = sym (near c.args.source c.args.local c.if-local-lt-FIRST_OF_ONE.true)

pub returns-else-local-lt-FIRST_OF_ONE : goal.returns-else-local-lt-FIRST_OF_ONE
returns-else-local-lt-FIRST_OF_ONE c = sym (far c.args.source c.args.local c.if-local-lt-FIRST_OF_ONE.false)
