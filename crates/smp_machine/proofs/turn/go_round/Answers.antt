use Rattle.std.proofs.Common.{rules}
use Rattle.smp_machine.proofs.Turns.{finishes, round_done, round_on}
use Rattle.smp_machine.proofs.turn.go_round.Goals as goal

pub unreachable-requires : goal.unreachable-requires
unreachable-requires g c =
    finishes g.F.StopFunc.leads c.args.me.now c.advance.new.me c.finish.new.me c.args.run.now c.advance.new.func c.in-Ok-Left.field-0
    c.in-Err-finish.field-0 c.in-Ok-Left.field-0-is c.in-Ok-Left.ensures c.in-Err-finish.ensures

pub returns-in-Ok-finish : goal.returns-in-Ok-finish
returns-in-Ok-finish g c =
    round_done g.F.StopFunc.leads c.args.me.now c.advance.new.me c.finish.new.me c.args.run.now c.advance.new.func c.in-Ok-Left.field-0
    c.in-Ok-finish.field-0 c.in-Ok-Left.field-0-is c.in-Ok-Left.ensures c.in-Ok-finish.ensures

pub returns-in-Ok : goal.returns-in-Ok
returns-in-Ok g c =
    round_on g.F.StopFunc.leads c.args.me.now c.advance.new.me c.args.run.now c.advance.new.func c.in-Ok.turn (search rules) c.in-Ok.ensures
