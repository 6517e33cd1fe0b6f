use Rattle.smp_words.specs.Layout.{number_in}
use Rattle.smp_call_steps.specs.Value.{control_of}
use Rattle.smp_call_steps.proofs.State.Counts.{confirmed_calls_ran}
use Rattle.smp_call_steps.proofs.State.HaveRun.{confirmed_sync_calls_ended, confirmed_calls_have_run}
use Rattle.smp_core.proofs.machine.Core.confirmed_calls_ran.Goals as goal

pub returns-clause-ran : goal.returns-clause-ran
returns-clause-ran g c calls shown = confirmed_calls_ran shown

pub returns-clause-ended : goal.returns-clause-ended
returns-clause-ended g c calls shown = confirmed_sync_calls_ended calls (number_in c.args.self.now.words) (control_of c.args.self.now.controls) shown

pub returns-clause-each : goal.returns-clause-each
returns-clause-each g c calls shown = confirmed_calls_have_run calls (number_in c.args.self.now.words) (control_of c.args.self.now.controls) shown
