use Rattle.smp_stop_steps.proofs.Steps.NoteSteps.{note_fits}
use Rattle.smp_stop_steps.proofs.laws.notes_fit.Goals as goal

pub returns : goal.returns
returns c u p at seat source h control me sits carry stage e = note_fits u p at seat source h control me sits carry stage e
