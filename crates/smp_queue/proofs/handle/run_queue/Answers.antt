use Rattle.std.proofs.Common.{ap, ◌∙◌}
use Rattle.smp_queue.specs.{CpuValue, cpu_of}
use Rattle.smp_queue.proofs.Handling.Passing.{at_cpu, at_own, ran_still}
use Rattle.smp_queue.proofs.Handling.Running.{batch_ran}
use Rattle.smp_queue.proofs.handle.run_queue.Goals as goal

pub run_batch-requires-clause-me : goal.run_batch-requires-clause-me
run_batch-requires-clause-me g c =
    ap (λ (x : CpuValue). x.number) (at_cpu _ _ _ c.take_batch-batch.result.first c.take_batch-batch.ensures.2) ∙ c.requires.me

pub run_batch-requires-clause-at : goal.run_batch-requires-clause-at
run_batch-requires-clause-at g c = at_own _ _ _ c.take_batch-batch.result.first c.take_batch-batch.ensures.2

pub run_batch-requires-clause-idle : goal.run_batch-requires-clause-idle
run_batch-requires-clause-idle g c =
    ap (λ (x : CpuValue). x.part.running) (at_cpu _ _ _ c.take_batch-batch.result.first c.take_batch-batch.ensures.2)

pub run_batch-requires-clause-counts : goal.run_batch-requires-clause-counts
run_batch-requires-clause-counts g c =
    ran_still c.args.counts.now c.args.seat.now.known c.take_batch-batch.new.seat.known c.requires.counts
    (ap (λ (x : CpuValue). x.part.ran) (at_cpu _ _ _ c.take_batch-batch.result.first c.take_batch-batch.ensures.2))

pub returns : goal.returns
returns g c =
    let b = c.take_batch-batch.ensures in
    let h = c.run_batch.ensures in
    let r =
    batch_ran g.H.Handler.leads c.args.context.words.shared.now.table_id (cpu_of c.args.seat.now) c.take_batch-batch.new.seat c.run_batch.new.seat b.0
    c.take_batch-batch.result.first c.run_batch.new.counts c.args.handler.now c.run_batch.new.handler b.2 h in
    record {
      queue = b.0;
      ran_is = b.1;
      table_is = h.table_is;
      lives = h.lives;
      stage_is = h.stage_is;
      cpu = r.0;
      counts_are = h.counts_are;
      grows = r.1;
    }
