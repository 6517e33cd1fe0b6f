use Rattle.std.proofs.Common.{arith, sym, refl, ap}
use Rattle.smp_call_steps.proofs.Knows.Posted.{stands_as, uncount_known, released_known, uncount_access}
use Rattle.smp_queue.specs.{counted}
use Rattle.smp_queue.proofs.Posts.Ready.{ready_post, mine_moved}
use Rattle.smp_queue.specs.post
use Rattle.smp_queue.proofs.post.give_up.Goals as goal

pub store-requires : goal.store-requires
store-requires c =
    let k = c.requires.counted in
    let p = c.args.posting.now in
    ready_post _ _ p post.Uncount _ c.requires.mine (sym c.requires.stage) tt
    (uncount_access c.args.seat.now.known (counted p) c.args.sender.number c.args.sender.queued k.number_is k.count_is) tt

pub store-requires-2 : goal.store-requires-2
store-requires-2 c =
    let p = c.args.posting.now in
    let v = c.args.seat.now.known in
    let known = uncount_known v c.store.new.seat.known v c.args.sender.number p.to c.args.sender.queued (counted p) c.store.ensures.known
    (stands_as v (counted p) post.LoadHead c.requires.stage) in
    ready_post _ _ p post.Release _ (mine_moved _ _ _ _ _ c.requires.mine c.store.ensures.table known refl) (sym (ap (λ u. u.stage) known)) tt refl tt

pub returns-clause-known : goal.returns-clause-known
returns-clause-known c = search (uncount_known, stands_as, released_known, arith)
