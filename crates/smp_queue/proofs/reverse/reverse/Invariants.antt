use Rattle.std.proofs.Common.{◌-◌}
use Rattle.smp_words.specs.declared.size.TheConstants.{MOST_CALLS}
use Rattle.smp_queue.proofs.Handling.Going.{Reversing}
use Rattle.smp_queue.proofs.reverse.reverse.Given as goal

abbrev pub invariant-loop-next : goal.invariant-loop-next
invariant-loop-next l = Reversing l.words.shared.now.table_id l.fn.seat l.seat l.oldest l.next l.calls

abbrev pub decreases-loop-next : goal.decreases-loop-next
decreases-loop-next l = MOST_CALLS - l.calls
