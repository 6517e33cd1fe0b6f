use Rattle.std.proofs.Common.{arith}
use Rattle.smp_call_steps.specs.Threads.Heads.{by_load, by_exchange}
use Rattle.smp_queue.proofs.Posts.Appends.{tries_first, tries_mine, tries_stage, tries_won, tries_lost}
use Rattle.smp_queue.proofs.post.append_until_won.Goals as goal

pub loop-init : goal.loop-init
loop-init g c = (
  by_load c.count_and_look-head.result,
  tries_first _ _ _ _ c.count_and_look-head.result c.count_and_look-head.ensures.table c.count_and_look-head.ensures.known,
)

pub link-found-requires-clause-mine : goal.link-found-requires-clause-mine
link-found-requires-clause-mine g c = tries_mine c.loop.invariant.1 c.requires.mine

pub link-found-requires-clause-stage : goal.link-found-requires-clause-stage
link-found-requires-clause-stage g c = tries_stage c.loop.invariant.1

pub returns-then-found-head-clause-sent : goal.returns-then-found-head-clause-sent
returns-then-found-head-clause-sent g c = search (tries_won, arith)

pub loop-preserved : goal.loop-preserved
loop-preserved g c = (
  by_exchange c.loop.invariant.0 c.link-found.result,
  tries_lost c.loop.invariant.1 c.link-found.new.seat c.link-found.result c.link-found.ensures.table (c.link-found.ensures.lost c.if-found-head.false)
      c.if-found-head.false,
)
