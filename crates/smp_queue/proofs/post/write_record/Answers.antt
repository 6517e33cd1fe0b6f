use Rattle.std.proofs.Common.{arith, sym, refl, ap}
use Rattle.smp_call_steps.specs.Threads.Known.{posting_of, stepped}
use Rattle.smp_call_steps.proofs.Knows.Posted.{locked_known, func_known, info_known}
use Rattle.smp_queue.proofs.Posts.Ready.{ready_post, mine_moved}
use Rattle.smp_queue.specs.{Flags, Store}
use Rattle.smp_queue.specs.post
use Rattle.smp_queue.proofs.post.write_record.Goals as goal

pub store-requires : goal.store-requires
store-requires c = ready_post _ _ c.args.posting.now post.Lock _ c.requires.mine (sym c.requires.outside) c.requires.free
    (ap (Store (Flags c.args.posting.now.id)) (sym c.flags.ensures)) tt

pub store-requires-2 : goal.store-requires-2
store-requires-2 c =
    let p = c.args.posting.now in
    let v = c.args.seat.now.known in
    let known = locked_known v c.store.new.seat.known p.id c.flags.result p.class c.requires.outside c.store.ensures.known c.flags.ensures in
    ready_post _ _ p post.StoreFunc _ (mine_moved _ _ _ _ _ c.requires.mine c.store.ensures.table known refl) (sym (ap (λ u. u.stage) known)) tt refl tt

pub store-requires-3 : goal.store-requires-3
store-requires-3 c =
    let p = c.args.posting.now in
    let v = c.args.seat.now.known in
    let known = locked_known v c.store.new.seat.known p.id c.flags.result p.class c.requires.outside c.store.ensures.known c.flags.ensures in
    let known2 = func_known (stepped 1 v) c.store-2.new.seat.known c.store.new.seat.known p.id p.func (posting_of p.id p.class 0 0 0)
    c.store-2.ensures.known known in
    ready_post _ _ p post.StoreInfo _ (mine_moved _ _ _ _ _ c.requires.mine c.store-2.ensures.table known2 refl) (sym (ap (λ u. u.stage) known2)) tt refl tt

pub returns-clause-known : goal.returns-clause-known
returns-clause-known c = search (locked_known, func_known, info_known, arith)
