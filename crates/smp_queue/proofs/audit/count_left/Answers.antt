use Rattle.std.proofs.Common.{rules, arith}
use Rattle.smp_queue.specs.{Head, Hand, Flags}
use Rattle.smp_queue.proofs.Audits.Auditing.{count_zero, counted_more, counted_small}
use Rattle.smp_queue.proofs.TheRule.Cells.{has_cell}
use Rattle.smp_queue.proofs.audit.count_left.Goals as goal

pub loop-cpu-init : goal.loop-cpu-init
loop-cpu-init g c = search (count_zero, arith)

pub number-requires : goal.number-requires
number-requires g c = has_cell (Head c.loop-cpu.cpu) c.loop-cpu-test.true

pub overflow_add-left : goal.overflow_add-left
overflow_add-left g c =
    let i = c.loop-cpu.invariant in
    let t = c.loop-cpu-test.true in
    let small = counted_small _ c.loop-cpu.cpu c.loop-cpu.left.heads c.from.result _ i.heads c.from.ensures in
    search (rules, arith)

pub number-requires-in-loop-cpu : goal.number-requires-in-loop-cpu
number-requires-in-loop-cpu g c = has_cell (Hand c.loop-cpu.cpu) c.loop-cpu-test.true

pub overflow_add-left-in-loop-cpu : goal.overflow_add-left-in-loop-cpu
overflow_add-left-in-loop-cpu g c =
    let i = c.loop-cpu.invariant in
    let t = c.loop-cpu-test.true in
    let small = counted_small _ c.loop-cpu.cpu c.loop-cpu.left.handling c.from-in-loop-cpu.result _ i.handling c.from-in-loop-cpu.ensures in
    search (rules, arith)

pub loop-cpu-preserved : goal.loop-cpu-preserved
loop-cpu-preserved g c = search (counted_more, arith)

pub loop-id-init : goal.loop-id-init
loop-id-init g c = search (count_zero, arith)

pub number-requires-in-loop-id : goal.number-requires-in-loop-id
number-requires-in-loop-id g c = has_cell (Flags c.loop-id.id) c.loop-id-test.true

pub overflow_add-left-in-loop-id : goal.overflow_add-left-in-loop-id
overflow_add-left-in-loop-id g c =
    let i = c.loop-id.invariant in
    let t = c.loop-id-test.true in
    let small = counted_small _ c.loop-id.id c.loop-id.left.locked c.from-in-loop-id.result _ i.locked c.from-in-loop-id.ensures in
    search (rules, arith)

pub loop-id-preserved : goal.loop-id-preserved
loop-id-preserved g c = search (counted_more, arith)
