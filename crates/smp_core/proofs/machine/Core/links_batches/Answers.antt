use Rattle.smp_words.specs.Layout.{number_in}
use Rattle.smp_call_steps.specs.Value.{control_of}
use Rattle.smp_call_steps.proofs.State.BatchLinks.{batch_links}
use Rattle.smp_core.proofs.machine.Core.links_batches.Goals as goal

pub returns : goal.returns
returns g c calls shown = batch_links calls (number_in c.args.self.now.words) (control_of c.args.self.now.controls) shown
