use Rattle.std.proofs.Common.{rules, subst, Ok}
use Rattle.smp_machine.specs.Answers.{ManyAnswers}
use Rattle.smp_machine.specs.MachineCpu.{MachineCpuValue}
use Rattle.smp_machine.proofs.machine.Machine.call_many.Goals as goal

pub returns : goal.returns
returns g c =
    subst (λ (p : MachineCpuValue). ManyAnswers g.H.Handler.leads c.args.self.now p c.args.handler.now c.many.new.me c.many.new.handler c.args.mask
    c.args.func c.args.info c.args.wait (Ok c.many.result)) c.me.view_is (record {
      free = search rules;
      targets = c.many.ensures.targets;
      calls = c.many.ensures.calls;
      turns = c.many.ensures.turns;
      ended = c.many.ensures.ended;
      refused = tt;
      kept = c.many.ensures.kept;
    })
