use Rattle.smp_script.proofs.Transforms.{transformed}
use Rattle.view.proofs.show.show_svg.Goals as goal

pub returns-clause-shows : goal.returns-clause-shows
returns-clause-shows g c =
    transformed _ _ _ _ _ _ _ c.in_ok-text.ensures.ok _ _ (rw (← c.as_slice.ensures.value) c.shown.ensures) c.write_made.ensures.writes
