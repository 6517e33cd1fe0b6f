use Rattle.std.proofs.Common.{rules, subst}
use Rattle.smp_machine.specs.Answers.{SingleAnswers}
use Rattle.smp_machine.specs.MachineCpu.{MachineCpuValue}
use Rattle.smp_machine.proofs.machine.Machine.call_single.Goals as goal

pub returns : goal.returns
returns g c =
    subst (λ (p : MachineCpuValue). SingleAnswers g.H.Handler.leads c.args.self.now p c.args.handler.now c.single.new.me c.single.new.handler c.args.dst
    c.args.func c.args.info c.args.wait c.single.result) c.me.view_is (record {
      free = search rules;
      queued = c.single.ensures.queued;
      here = c.single.ensures.here;
      at_once = c.single.ensures.at_once;
      stays = c.single.ensures.stays;
      freed = c.single.ensures.freed;
      waits = search rules;
      refused = search rules;
      turns = c.single.ensures.turns;
      ended = c.single.ensures.ended;
      kept = c.single.ensures.kept;
    })
