use Rattle.smp_machine.specs.MachineCpu.{notes_looks}
use Rattle.smp_machine.proofs.heard_at.noted.Given as goal

abbrev pub ghosts-noted_as : goal.ghosts-noted_as
ghosts-noted_as a = record { listed = notes_looks a.before.now.value a.calls.now a.stops.now a.heard.now.at }
