use Rattle.smp_machine.proofs.Served.{drops}
use Rattle.smp_machine.proofs.take.enter_front.Goals as goal

pub returns-in-Err-clause-stops : goal.returns-in-Err-clause-stops
returns-in-Err-clause-stops g c =
    drops c.args.table.now c.args.item.slot c.args.me.now c.enter.new.me c.requires.limits c.requires.at.setting c.requires.outside c.in-Err.ensures.err.1
