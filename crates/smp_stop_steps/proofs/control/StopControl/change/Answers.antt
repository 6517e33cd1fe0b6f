use Rattle.std.proofs.Common.{◌∙◌, ap, List}
use Rattle.smp_stop_steps.specs.{Change, StopControlValue, change_at}
use Rattle.smp_stop_steps.proofs.Basics.Changes.{read_change}
use Rattle.smp_stop_steps.proofs.control.StopControl.change.Goals as goal

pub returns : goal.returns
returns c = read_change c.deref.result.now c.args.made
    ∙ ap (λ (xs : List Change). change_at xs c.args.made) (c.deref.ensures.0 ∙ ap (λ (v : StopControlValue). v.changes) c.self.view_is)
