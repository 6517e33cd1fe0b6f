use Rattle.std.proofs.Common.{◌∙◌}
use Rattle.load.proofs.Ending.{first_members}
use Rattle.load.proofs.torture.torture_new.Goals as goal

pub returns : goal.returns
returns g c mask first = c.in_ok-last.ensures.each ∙ first_members _ _ _ c.in_ok-machine.ensures.online first
