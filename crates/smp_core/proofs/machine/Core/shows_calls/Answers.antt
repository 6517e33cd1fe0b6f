use Rattle.smp_core.proofs.machine.Core.shows_calls.Goals as goal

pub returns : goal.returns
returns g c = rw (← c.self.view_is) (c.self.invariant.table.calls, c.self.invariant.table.shown)
