use Rattle.std.proofs.Common.{arith, [], ◌++◌, ◌∷◌, ap, ◌∙◌}
use Rattle.smp_queue.specs.Cpu.{CpuValue}
use Rattle.smp_calls.proofs.Passes.{passed_none, passed_more, passed_all, sends_none, sends_more}
use Rattle.smp_calls.proofs.each.send_each.Goals as goal

pub loop-cpu-init : goal.loop-cpu-init
loop-cpu-init g c = search (passed_none, sends_none, arith)

pub interrupt-requires-clause-table : goal.interrupt-requires-clause-table
interrupt-requires-clause-table g c = ap (λ (x : CpuValue). x.table) c.loop-cpu.invariant.2.others_are ∙ c.requires.table

pub interrupt-requires-clause-online : goal.interrupt-requires-clause-online
interrupt-requires-clause-online g c = search arith

pub loop-cpu-preserved : goal.loop-cpu-preserved
loop-cpu-preserved g c =
    let a = c.loop-cpu.invariant in (
      a.0 ++ c.in-Some.cpu ∷ [],
      passed_more c.args.owed c.loop-cpu.cpu-iterator c.next.new.self c.in-Some.cpu a.0 a.1 c.in-Some.ensures.steps.0,
      sends_more c.args.me.now c.loop-cpu.me c.interrupt.new.me c.in-Some.cpu a.0 a.2 c.interrupt.ensures,
    )

pub returns : goal.returns
returns g c = search (passed_all, arith)
