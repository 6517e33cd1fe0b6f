use Rattle.smp_script.proofs.Transforms.{transformed}
use Rattle.view.proofs.show.show_page.Goals as goal

pub returns-clause-pages : goal.returns-clause-pages
returns-clause-pages g c =
    transformed _ _ _ _ _ _ _ c.in_ok-text.ensures.ok _ _ (rw (← c.as_slice.ensures.value) c.paged.ensures) c.write_made.ensures.writes
