use Rattle.std.proofs.Common.{rules, subst}
use Rattle.smp_machine.specs.Answers.{AsyncAnswers}
use Rattle.smp_machine.specs.MachineCpu.{MachineCpuValue}
use Rattle.smp_machine.proofs.machine.Machine.call_async.Goals as goal

pub returns : goal.returns
returns g c =
    subst (λ (p : MachineCpuValue). AsyncAnswers g.H.Handler.leads c.args.self.now p c.args.handler.now c.single_async.new.me c.single_async.new.handler
    c.args.u c.args.dst c.args.func c.args.info c.single_async.result) c.me.view_is (record {
      free = search rules;
      record_is = c.single_async.ensures.record;
      queued = c.single_async.ensures.queued;
      here = c.single_async.ensures.here;
      still = c.single_async.ensures.still;
      untouched = c.single_async.ensures.untouched;
      called = c.single_async.ensures.called;
      refused = search rules;
      kept = c.single_async.ensures.kept;
    })
