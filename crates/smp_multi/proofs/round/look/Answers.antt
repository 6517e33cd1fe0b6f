use Rattle.std.proofs.Common.{arith}
use Rattle.smp_multi.specs.Names.{Rests}
use Rattle.smp_multi.specs.Names.field
use Rattle.smp_multi.proofs.Turning.{ready_look, turn_looked, finds_near, few_phases}
use Rattle.smp_multi.proofs.round.look.Goals as goal

pub load-requires : goal.load-requires
load-requires c = ready_look _ _ c.args.visit c.requires.at c.requires.more

pub returns-clause-at : goal.returns-clause-at
returns-clause-at c = turn_looked _ _ _ c.args.visit c.load.result c.requires.at c.load.ensures.table c.load.ensures.known

pub returns-clause-near : goal.returns-clause-near
returns-clause-near c = finds_near _ _ _ _ c.args.visit.acked Rests c.requires.at.seat_is c.load.result c.load.ensures.then

pub returns-clause-few : goal.returns-clause-few
returns-clause-few c =
    let few = few_phases _ _ _ _ c.args.visit.acked Rests c.requires.at.seat_is field.State c.load.result c.load.ensures.then in
    let more = c.requires.more in
    omega arith
