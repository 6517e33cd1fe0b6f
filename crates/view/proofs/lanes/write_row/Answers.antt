use Rattle.std.proofs.Common.{◌∙◌}
use Rattle.view.proofs.lanes.write_row.Goals as goal

pub returns : goal.returns
returns g c = rw (← (c.as_str.ensures.value ∙ c.in_ok-text.ensures)) c.write_told.ensures
