use Rattle.std.proofs.Common.{sym, ◌∙◌, true≢false}
use Rattle.smp_call_steps.proofs.Knows.Restages.{confirmed_unlocked}
use Rattle.smp_call_steps.proofs.Knows.Posted.{loaded_known}
use Rattle.smp_queue.proofs.Posts.Ready.{ready_done}
use Rattle.smp_queue.proofs.post.is_locked.Goals as goal

pub load-requires : goal.load-requires
load-requires c = ready_done _ _ _ c.args.id c.requires.at c.requires.outside

pub returns-clause-known : goal.returns-clause-known
returns-clause-known c = c.load.ensures.known ∙ loaded_known c.args.seat.now.known c.args.id c.load.result c.requires.outside

pub returns-clause-locked : goal.returns-clause-locked
returns-clause-locked c l conf = let a = c.requires.at in
    true≢false (sym l ∙ confirmed_unlocked c.args.seat.now.known c.args.id c.load.result c.load.ensures.moment c.requires.outside a.owned a.in_range conf)
