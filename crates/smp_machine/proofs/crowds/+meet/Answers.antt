use Rattle.smp_machine.proofs.Meetings.{calls_met, stops_met}
use Rattle.smp_machine.proofs.crowds.+meet.Goals as goal

pub returns-in-None-clause-calls : goal.returns-in-None-clause-calls
returns-in-None-clause-calls g t c = calls_met _ c.args.cpus.now c.in-None.ensures.cases c.all_together.ensures.same

pub returns-in-None-clause-stops : goal.returns-in-None-clause-stops
returns-in-None-clause-stops g t c = stops_met _ c.args.cpus.now c.in-None.ensures.cases c.all_together-in-None.ensures.same
