use Rattle.std.proofs.Common.{refl}
use Rattle.smp_words.specs.Size.{record_of}
use Rattle.smp_words.proofs.laws.records_by_number.Goals as goal

pub returns : goal.returns
unfolding record_of
returns c = λ source k. refl
