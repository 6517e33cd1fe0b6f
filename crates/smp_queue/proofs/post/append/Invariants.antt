use Rattle.std.proofs.Common.{◌≡◌, ◌≤◌}
use Rattle.smp_call_steps.specs.Threads.Heads.{Found, times_lost}
use Rattle.smp_queue.proofs.Posts.Appends.{Tries}
use Rattle.smp_queue.proofs.post.append.Given as goal

abbrev pub invariant-loop-lost : goal.invariant-loop-lost
invariant-loop-lost l = (found : Found) × Tries l.words.shared.now.table_id l.fn.seat l.seat l.posting l.head found
    × (times_lost found ≡ l._lost) × (l._lost ≤ l.tries)
