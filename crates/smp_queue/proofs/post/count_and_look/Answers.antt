use Rattle.std.proofs.Common.{arith, ◌+◌, ◌%◌, ◌^◌, sym, refl, ap}
use Rattle.smp_call_steps.proofs.Knows.Posted.{stands_as, count_known, head_known, count_access}
use Rattle.smp_queue.specs.{uncounted, counted}
use Rattle.smp_queue.proofs.Posts.Ready.{ready_post, mine_moved}
use Rattle.smp_queue.specs.post
use Rattle.smp_queue.proofs.post.count_and_look.Goals as goal

pub store-requires : goal.store-requires
store-requires c =
    let k = c.requires.counting in
    let p = c.args.posting.now in
    ready_post _ _ p post.Count _ c.requires.mine (sym k.stage) tt
    (count_access c.args.seat.now.known (counted p) c.args.sender.number c.args.sender.queued k.number_is k.count_is) tt

pub load-requires : goal.load-requires
load-requires c =
    let k = c.requires.counting in
    let p = c.args.posting.now in
    let v = c.args.seat.now.known in
    let known = count_known v c.store.new.seat.known v c.args.sender.number p.to ((c.args.sender.queued + 1) % 2 ^ 64) (uncounted p) c.store.ensures.known
    (stands_as v (uncounted p) post.Count k.stage) in
    ready_post _ _ p post.LoadHead _ (mine_moved _ _ _ _ _ c.requires.mine c.store.ensures.table known refl) (sym (ap (λ u. u.stage) known)) tt refl tt

pub returns-clause-known : goal.returns-clause-known
returns-clause-known c = search (count_known, stands_as, head_known, arith)
