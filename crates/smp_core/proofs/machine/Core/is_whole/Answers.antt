use Rattle.smp_core.proofs.machine.Core.is_whole.Goals as goal

pub returns : goal.returns
returns g c = rw (← c.self.view_is) record { sound = c.self.invariant; stops = c.is_sound.ensures }
