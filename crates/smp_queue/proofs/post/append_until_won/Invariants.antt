use Rattle.smp_call_steps.specs.Threads.Heads.{Found}
use Rattle.smp_queue.proofs.Posts.Appends.{Tries}
use Rattle.smp_queue.proofs.post.append_until_won.Given as goal

abbrev pub invariant-loop : goal.invariant-loop
invariant-loop g l = (found : Found) × Tries l.words.shared.now.table_id l.fn.seat l.seat l.posting l.head found
