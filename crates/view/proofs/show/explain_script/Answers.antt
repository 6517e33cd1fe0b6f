use Rattle.smp_script.proofs.Transforms.{transformed}
use Rattle.view.proofs.show.explain_script.Goals as goal

pub returns-clause-explains : goal.returns-clause-explains
returns-clause-explains g c =
    transformed _ _ _ _ _ _ _ c.in_ok-text.ensures.ok _ _ (rw (← c.as_slice.ensures.value) c.explained_script.ensures) c.write_made.ensures.writes
