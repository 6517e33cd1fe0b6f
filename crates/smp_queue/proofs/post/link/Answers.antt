use Rattle.std.proofs.Common.{arith, sym, refl, ap, eq-eqb, ne_eqb}
use Rattle.smp_call_steps.proofs.Knows.Posted.{stands_as, next_known, won_known, lost_known}
use Rattle.smp_queue.specs.{counted}
use Rattle.smp_queue.proofs.Posts.Ready.{ready_post, mine_moved}
use Rattle.smp_queue.specs.post
use Rattle.smp_queue.proofs.post.link.Goals as goal

pub store-requires : goal.store-requires
store-requires c = ready_post _ _ c.args.posting.now (post.StoreNext c.args.link 0) _ c.requires.mine (sym c.requires.stage) tt refl tt

pub exchange-requires : goal.exchange-requires
exchange-requires c =
    let p = c.args.posting.now in
    let v = c.args.seat.now.known in
    let known = next_known v c.store.new.seat.known v p.id c.args.link (counted p) c.store.ensures.known
    (stands_as v (counted p) post.LoadHead c.requires.stage) in
    ready_post _ _ p (post.Exchange c.args.link 0) _ (mine_moved _ _ _ _ _ c.requires.mine c.store.ensures.table known refl)
    (sym (ap (λ u. u.stage) known)) tt refl c.requires.online

pub returns-clause-won : goal.returns-clause-won
returns-clause-won c e = search (next_known, stands_as, won_known, eq-eqb, arith)

pub returns-clause-lost : goal.returns-clause-lost
returns-clause-lost c ne = search (next_known, stands_as, lost_known, ne_eqb, arith)
