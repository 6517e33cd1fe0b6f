use Rattle.smp_machine.proofs.stop.try_put.Goals as goal

pub returns-clause-shown : goal.returns-clause-shown
returns-clause-shown g c ok = (c.put.ensures.put ok).1
