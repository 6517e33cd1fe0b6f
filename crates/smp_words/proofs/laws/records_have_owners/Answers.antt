use Rattle.smp_words.proofs.Sizes.{owner-of_record}
use Rattle.smp_words.proofs.laws.records_have_owners.Goals as goal

pub returns : goal.returns
returns c = λ s k l m. owner-of_record s k l m
