use Rattle.std.proofs.Common.{rules, subst, Ok, Bool, ℕ}
use Rattle.smp_machine.specs.Answers.{CondAnswers}
use Rattle.smp_machine.specs.MachineCpu.{MachineCpuValue}
use Rattle.smp_machine.proofs.machine.Machine.each_cpu_cond.Goals as goal

pub returns : goal.returns
returns g c =
    subst (λ (p : MachineCpuValue). CondAnswers g.H.Handler.leads c.args.self.now p c.args.handler.now c.each.new.me c.each.new.handler
    (λ (x : ℕ) (answer : Bool). g.C.Fn.post c.args.cond.now (x, (c.args.info, tt)) answer)
    c.args.mask c.args.func c.args.info c.args.wait (Ok c.each.result)) c.me.view_is (record {
      free = search rules;
      picks = c.each.ensures.picks;
      calls = c.each.ensures.calls;
      turns = c.each.ensures.turns;
      ended = c.each.ensures.ended;
      refused = tt;
      kept = c.each.ensures.kept;
    })
