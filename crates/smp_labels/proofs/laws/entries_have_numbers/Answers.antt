use Rattle.smp_labels.proofs.Lawful.{entry_at-word}
use Rattle.smp_labels.proofs.laws.entries_have_numbers.Goals as goal

pub returns-clause-read : goal.returns-clause-read
returns-clause-read c = entry_at-word
