use Rattle.smp_core.proofs.Joined.{hand_shown, handles_shown}
use Rattle.smp_core.proofs.machine.Core.joins_halves.Goals as goal

pub returns-clause-handles : goal.returns-clause-handles
returns-clause-handles g c = rw (← c.self.view_is) (handles_shown c.self.inside.controls.items c.self.inside.stops
    c.self.invariant.table.controls_sized c.self.invariant.joined)

pub returns-clause-hand : goal.returns-clause-hand
returns-clause-hand g c = rw (← c.self.view_is) (λ p shown cpu. hand_shown c.self.inside.controls.items c.self.inside.stops
    c.self.invariant.table.controls_sized c.self.invariant.joined p shown cpu c.self.invariant.table.calls c.self.inside.words.items
    c.self.invariant.table.shown)

pub returns-clause-in_one : goal.returns-clause-in_one
returns-clause-in_one g c = rw (← c.self.view_is) c.self.invariant.joined.in_one
