use Rattle.smp_stop_steps.proofs.machine.Stops.shows_stops.Goals as goal

pub returns : goal.returns
returns g c = rw (← c.self.view_is) (c.self.invariant.stops, c.self.invariant.shown)
