use Rattle.smp_script.proofs.NoteTexts.{told_apart}
use Rattle.smp_script.proofs.laws.notes_are_told_apart.Goals as goal

pub returns : goal.returns
returns c = told_apart
