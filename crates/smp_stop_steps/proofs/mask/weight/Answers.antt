use Rattle.std.proofs.Common.{◌∙◌, sym}
use Rattle.smp_stop_steps.specs.{cpus}
use Rattle.smp_stop_steps.proofs.Basics.Weights.{weight_ones}
use Rattle.smp_stop_steps.proofs.mask.weight.Goals as goal

pub returns : goal.returns
returns c = c.from.ensures ∙ sym (weight_ones cpus c.args.mask)
