use Rattle.std.proofs.Common.{◌+◌, refl, ap, arith}
use Rattle.smp_call_steps.specs.Threads.Heads.{by_load, by_exchange}
use Rattle.smp_queue.proofs.Posts.Appends.{tries_first, tries_mine, tries_stage, tries_tallied, tries_won, tries_left, tries_lost}
use Rattle.smp_queue.proofs.post.append.Goals as goal

pub loop-lost-init : goal.loop-lost-init
loop-lost-init c =
    let first = tries_first _ _ _ _ c.count_and_look-head.result c.count_and_look-head.ensures.table c.count_and_look-head.ensures.known in
    (by_load c.count_and_look-head.result, first, refl, omega arith)

pub link-found-requires-clause-mine : goal.link-found-requires-clause-mine
link-found-requires-clause-mine c = tries_mine c.loop-lost.invariant.1 c.requires.mine

pub link-found-requires-clause-stage : goal.link-found-requires-clause-stage
link-found-requires-clause-stage c = tries_stage c.loop-lost.invariant.1

pub returns-then-found-head-clause-sent : goal.returns-then-found-head-clause-sent
returns-then-found-head-clause-sent c = search (tries_won, arith)

pub loop-lost-preserved : goal.loop-lost-preserved
loop-lost-preserved c = (
  by_exchange c.loop-lost.invariant.0 c.link-found.result,
  tries_lost c.loop-lost.invariant.1 c.link-found.new.seat c.link-found.result c.link-found.ensures.table
      (c.link-found.ensures.lost c.if-found-head.false) c.if-found-head.false,
  ap (λ n. n + 1) c.loop-lost.invariant.2,
  let below = c.loop-lost-test.true in omega arith,
)

pub give_up-requires-clause-mine : goal.give_up-requires-clause-mine
give_up-requires-clause-mine c = tries_mine c.loop-lost.invariant.1 c.requires.mine

pub give_up-requires-clause-stage : goal.give_up-requires-clause-stage
give_up-requires-clause-stage c = tries_stage c.loop-lost.invariant.1

pub give_up-requires-clause-counted : goal.give_up-requires-clause-counted
give_up-requires-clause-counted c = tries_tallied c.loop-lost.invariant.1 c.args.sender.number c.args.sender.queued c.requires.counting

pub returns-clause-lost : goal.returns-clause-lost
returns-clause-lost c = search (tries_left, arith)
