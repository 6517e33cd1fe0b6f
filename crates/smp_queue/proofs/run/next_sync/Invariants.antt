use Rattle.std.proofs.Common.{◌≤◌, ◌^◌}
use Rattle.smp_call_steps.specs.Drains.{record_at}
use Rattle.smp_call_steps.specs.Words.{last_batch}
use Rattle.smp_queue.proofs.Handling.Ahead.{left_from}
use Rattle.smp_queue.proofs.Handling.Passing.{Passing}
use Rattle.smp_queue.proofs.run.next_sync.Given as goal

abbrev pub invariant-loop-id : goal.invariant-loop-id
invariant-loop-id l = (l.link ≤ 2 ^ 32) × Passing l.words.shared.now.table_id l.fn.seat l.seat l.walk (record_at l.link)

abbrev pub decreases-loop-id : goal.decreases-loop-id
decreases-loop-id l = left_from (record_at l.link) (last_batch l.seat.known.part.taken)
