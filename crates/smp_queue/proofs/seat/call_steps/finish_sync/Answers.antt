use Rattle.std.proofs.Common.{◌≡◌, ◌∙◌, ◌+◌, ◌%◌, ◌^◌, ℕ, get_or, set, ap, arith}
use Rattle.smp_words.specs.Size.{owner}
use Rattle.smp_call_steps.specs.Drains.{first_on}
use Rattle.smp_call_steps.specs.Threads.Handling.{ended_call}
use Rattle.smp_words.proofs.Sizes.{owner-below}
use Rattle.smp_call_steps.proofs.Knows.Handling.{lives_stands}
use Rattle.smp_queue.specs.{KnownCalls}
use Rattle.smp_queue.proofs.Handling.Running.{tally_running, more_ran}
use Rattle.smp_queue.specs.handle
use Rattle.smp_queue.proofs.seat.call_steps.finish_sync.Goals as goal

pub one_more-count-requires : goal.one_more-count-requires
one_more-count-requires g c = search (owner-below, arith)

pub count_sync-requires-clause-count : goal.count_sync-requires-clause-count
count_sync-requires-clause-count g c =
    let at = c.requires.at in
    let k = lives_stands at.lives (handle.CountSync c.args.ran.place.walk c.args.ran.place.call c.args.ran.place.next) at.stage_is in
    search (owner-below, tally_running, k.1.running_is, arith)

pub returns-clause-known : goal.returns-clause-known
returns-clause-known g c =
    let p = c.args.ran.place in
    c.end_sync.ensures.known ∙ ap (ended_call (first_on p.walk p.next) p.call) c.count_sync.ensures.known

pub returns-clause-counts : goal.returns-clause-counts
returns-clause-counts g c =
    let p = c.args.ran.place in
    let known = c.end_sync.ensures.known ∙ ap (ended_call (first_on p.walk p.next) p.call) c.count_sync.ensures.known in
    let is : c.one_more-count.new.counts ≡ set c.args.counts.now (owner p.call.id) ((get_or c.args.counts.now (owner p.call.id) 0 + 1) % 2 ^ 64) =
    c.one_more-count.ensures.counts ∙
    (ap (set c.args.counts.now c.owner_of-source.result) c.one_more-count.ensures.count
    ∙ ap (λ (n : ℕ). set c.args.counts.now n ((get_or c.args.counts.now n 0 + 1) % 2 ^ 64)) c.owner_of-source.ensures) in
    more_ran c.args.counts.now _ c.args.seat.now.known c.end_sync.new.seat.known p.call c.requires.counts c.requires.in_range
    (ap (λ (u : KnownCalls). u.part.ran) known) is
