use Rattle.smp_machine.specs.Passes.{note_of}
use Rattle.smp_machine.proofs.stoppers.Stoppers.put.Given as goal

abbrev pub ghosts-push : goal.ghosts-push
ghosts-push g a = record { note = note_of a.stops.now a.me.now }
