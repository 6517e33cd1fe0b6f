use Rattle.smp_stop_steps.proofs.machine.Stops.is_sound.Goals as goal

pub returns : goal.returns
returns g c = rw (← c.self.view_is) c.self.invariant
