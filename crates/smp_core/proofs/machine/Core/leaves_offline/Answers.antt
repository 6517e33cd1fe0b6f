use Rattle.smp_core.proofs.Offline.{leaves_offline}
use Rattle.smp_core.proofs.machine.Core.leaves_offline.Goals as goal

pub returns : goal.returns
returns g c = rw (← c.self.view_is) (leaves_offline c.self.inside.online c.self.inside.words.items c.self.inside.controls.items
    c.self.invariant.apart)
