use Rattle.smp_multi.proofs.seat.run_steps.subtract_with.Given as goal

abbrev pub ghosts-end_with : goal.ghosts-end_with
ghosts-end_with a = record { answer = a.answer }
