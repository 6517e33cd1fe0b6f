use Rattle.std.proofs.Common.{sym}
use Rattle.smp_words.proofs.Sizes.{owner_near, owner_far}
use Rattle.smp_words.proofs.size.owner_of.Goals as goal

pub returns-then-id-lt-FIRST_RECORDS : goal.returns-then-id-lt-FIRST_RECORDS
returns-then-id-lt-FIRST_RECORDS c = sym (owner_near c.args.id c.if-id-lt-FIRST_RECORDS.true)

pub returns-else-id-lt-FIRST_RECORDS : goal.returns-else-id-lt-FIRST_RECORDS
returns-else-id-lt-FIRST_RECORDS c = sym (owner_far c.args.id c.if-id-lt-FIRST_RECORDS.false)
