use Rattle.std.proofs.Common.{ℕ, subst}
use Rattle.smp_machine.specs.Answers.{EachAnswers}
use Rattle.smp_machine.proofs.Names.{all_called}
use Rattle.smp_machine.proofs.seat.Seat.on_each_cpu.Goals as goal

pub returns-clause-answers : goal.returns-clause-answers
returns-clause-answers g c =
    subst (λ (m : ℕ). EachAnswers g.H.Handler.leads c.args.self.now.machine c.args.self.now.cpu c.args.self.now.handler c.on_each_cpu_mask.new.self.cpu
    c.on_each_cpu_mask.new.self.handler m c.args.func c.args.info c.args.wait c.on_each_cpu_mask.result) c.online-online.ensures.calls
    c.on_each_cpu_mask.ensures.answers

pub returns-clause-all : goal.returns-clause-all
returns-clause-all g c =
    all_called c.masks_are_sets.ensures c.args.self.now.machine.calls.online c.args.self.now.cpu.calls.number c.on_each_cpu_mask.result
    (returns-clause-answers g c).targets
