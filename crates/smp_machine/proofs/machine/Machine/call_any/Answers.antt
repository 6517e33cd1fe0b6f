use Rattle.std.proofs.Common.{rules, subst}
use Rattle.smp_machine.specs.Answers.{AnyAnswers}
use Rattle.smp_machine.specs.MachineCpu.{MachineCpuValue}
use Rattle.smp_machine.proofs.machine.Machine.call_any.Goals as goal

pub returns : goal.returns
returns g c =
    subst (λ (p : MachineCpuValue). AnyAnswers g.H.Handler.leads c.args.self.now p c.args.handler.now c.any.new.me c.any.new.handler c.args.mask c.args.func
    c.args.info c.args.wait c.any.result) c.me.view_is (record {
      free = search rules;
      any = c.any.ensures.any;
      queued = c.any.ensures.queued;
      here = c.any.ensures.here;
      at_once = c.any.ensures.at_once;
      freed = c.any.ensures.freed;
      refused = search rules;
      turns = c.any.ensures.turns;
      ended = c.any.ensures.ended;
      kept = c.any.ensures.kept;
    })
