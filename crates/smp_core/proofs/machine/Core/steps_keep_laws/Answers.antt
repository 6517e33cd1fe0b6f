use Rattle.smp_words.specs.Layout.{number_in}
use Rattle.smp_call_steps.specs.Value.{control_of}
use Rattle.smp_call_steps.proofs.StepLaws.Keeps.{steps_keep_laws}
use Rattle.smp_core.proofs.machine.Core.steps_keep_laws.Goals as goal

pub returns-clause-stops : goal.returns-clause-stops
returns-clause-stops g c = rw (← c.self.view_is) c.steps_keep_laws.ensures

pub returns-clause-calls : goal.returns-clause-calls
returns-clause-calls g c a shown = steps_keep_laws a (number_in c.args.self.now.words) (control_of c.args.self.now.controls) shown
