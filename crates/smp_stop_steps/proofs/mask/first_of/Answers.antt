use Rattle.std.proofs.Common.{sym}
use Rattle.smp_stop_steps.specs.{cpus}
use Rattle.smp_stop_steps.proofs.Basics.Weights.{first_at, first_past}
use Rattle.smp_stop_steps.proofs.mask.first_of.Goals as goal

pub returns-in-Some-clause-least : goal.returns-in-Some-clause-least
returns-in-Some-clause-least c = sym (first_at c.args.mask c.in-Some.cpu cpus c.in-Some.ensures.least c.in-Some.ensures.within)

pub returns-in-None-clause-least : goal.returns-in-None-clause-least
returns-in-None-clause-least c = sym (first_past c.args.mask cpus (λ cpu low. c.in-None.ensures.least cpu))
