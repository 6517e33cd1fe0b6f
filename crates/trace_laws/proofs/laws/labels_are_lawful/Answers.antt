use Rattle.trace_laws.proofs.Labels.LawfulLabels.{labels_are_lawful, reads_are_lawful}
use Rattle.trace_laws.proofs.laws.labels_are_lawful.Goals as goal

pub returns-clause-outside : goal.returns-clause-outside
returns-clause-outside c = labels_are_lawful

pub returns-clause-read : goal.returns-clause-read
returns-clause-read c = reads_are_lawful
