use Rattle.smp_stop_steps.specs.{StopsValue}
use Rattle.smp_stop_steps.proofs.TheMachine.StepLaws.{steps_keep_laws}
use Rattle.smp_stop_steps.proofs.machine.Stops.steps_keep_laws.Goals as goal

pub returns : goal.returns
returns g c = let value : StopsValue = record {
  nr = c.self.inside.nr;
  online = c.self.inside.online;
  labels = c.self.inside.labels;
  table = c.self.inside.table;
  controls = c.self.inside.controls.items;
} in
    rw (← c.self.view_is) (λ p shown. steps_keep_laws value p c.self.invariant shown)
