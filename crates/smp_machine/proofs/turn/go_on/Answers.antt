use Rattle.std.proofs.Common.{refl, sym, subst}
use Rattle.smp_multi.specs.Advance.{IsInRound}
use Rattle.smp_multi.specs.declared.turn.Turn.TheVariants.{Left}
use Rattle.smp_machine.proofs.Turns.{in_round, not_run, turns_one, turns_after}
use Rattle.smp_machine.proofs.Looks.{turn_irq}
use Rattle.smp_machine.proofs.turn.go_on.Goals as goal

pub go_round-requires-clause-round : goal.go_round-requires-clause-round
go_round-requires-clause-round g c =
    let no = not_run g.F.StopFunc.leads c.args.me.now c.run_one.new.me c.args.run.now c.run_one.new.func c.in-Err.field-0 c.in-Err.ensures in
    subst IsInRound (sym no.1) (in_round c.args.me.now c.args.me.now.inside refl c.requires.inside c.requires.not_left no.0)

pub returns-in-Ok-clause-stops : goal.returns-in-Ok-clause-stops
returns-in-Ok-clause-stops g c =
    turns_one g.F.StopFunc.leads c.args.me.now c.run_one.new.me c.args.run.now c.run_one.new.func c.in-Ok.field-0 c.in-Ok.ensures

pub returns-in-Err-clause-stops : goal.returns-in-Err-clause-stops
returns-in-Err-clause-stops g c =
    let no = not_run g.F.StopFunc.leads c.args.me.now c.run_one.new.me c.args.run.now c.run_one.new.func c.in-Err.field-0 c.in-Err.ensures in
    turns_after g.F.StopFunc.leads c.args.me.now c.run_one.new.me c.go_round.new.me c.args.run.now c.run_one.new.func c.go_round.new.run
    c.go_round.result no.1 no.2 c.go_round.ensures

pub returns-in-Ok-clause-irq : goal.returns-in-Ok-clause-irq
returns-in-Ok-clause-irq g c =
    turn_irq g.F.StopFunc.leads c.args.me.now c.args.run.now c.run_one.new.func c.requires.irq c.run_one.new.me Left
    (turns_one g.F.StopFunc.leads c.args.me.now c.run_one.new.me c.args.run.now c.run_one.new.func c.in-Ok.field-0 c.in-Ok.ensures) c.requires.not_left

pub returns-in-Err-clause-irq : goal.returns-in-Err-clause-irq
returns-in-Err-clause-irq g c =
    let no = not_run g.F.StopFunc.leads c.args.me.now c.run_one.new.me c.args.run.now c.run_one.new.func c.in-Err.field-0 c.in-Err.ensures in
    turn_irq g.F.StopFunc.leads c.args.me.now c.args.run.now c.go_round.new.run c.requires.irq c.go_round.new.me c.go_round.result
    (turns_after g.F.StopFunc.leads c.args.me.now c.run_one.new.me c.go_round.new.me c.args.run.now c.run_one.new.func c.go_round.new.run
    c.go_round.result no.1 no.2 c.go_round.ensures) c.requires.not_left
