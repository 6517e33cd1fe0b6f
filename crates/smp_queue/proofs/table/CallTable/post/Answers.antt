use Rattle.std.proofs.Common.{arith, ℕ, ◌+◌, ◌%◌, ◌^◌, set, get_or, sym, ap, ◌∙◌, subst}
use Rattle.smp_queue.specs.{Posting, IsKept}
use Rattle.smp_queue.proofs.Posts.Kept.{kept_posted}
use Rattle.smp_queue.proofs.Posts.Own.{mine_of, posts_then}
use Rattle.smp_queue.proofs.Posts.Shown.{marked_then}
use Rattle.smp_queue.proofs.table.CallTable.post.Goals as goal

pub write_record-requires-clause-mine : goal.write_record-requires-clause-mine
write_record-requires-clause-mine g c = search (mine_of, arith)

pub invariant_of-me : goal.invariant_of-me
invariant_of-me g c =
    let e = c.in_ok-posting.ensures in
    let may = e.4 in
    subst (λ (n : ℕ). IsKept c.append_until_won-first.new.seat.known c.me.inside.number
    (set c.me.inside.queued n ((get_or c.me.inside.queued n 0 + 1) % 2 ^ 64)) c.me.inside.ran) (ap (λ (p : Posting). p.to) e.3)
    (kept_posted c.me.inside.seat.known c.write_record.new.seat.known c.append_until_won-first.new.seat.known c.me.inside.number c.me.inside.queued
    c.me.inside.ran c.in_ok-posting.posting c.append_until_won-first.result c.append_until_won-first.ensures.sent.0 c.me.invariant
    may.to_in_range c.write_record.ensures.known c.append_until_won-first.ensures.sent.1)

pub returns-clause-answers : goal.returns-clause-answers
returns-clause-answers g c =
    let e = c.in_ok-posting.ensures in
    let table = c.append_until_won-first.ensures.table ∙ (c.words-words.ensures.table ∙ (ap (λ t. t.table) c.self.view_is ∙ sym c.requires)) in (
      e.0,
      e.1,
      c.append_until_won-first.ensures.sent.0,
      c.append_until_won-first.ensures.sent.1.others,
      c.append_until_won-first.ensures.sent.1.first_is,
      posts_then c.me.inside.seat c.append_until_won-first.new.seat c.write_record.new.seat.known c.args.me.now c.begin_post.new.me c.args.k c.args.to
          c.args.func c.args.info c.args.class c.in_ok-posting.posting c.append_until_won-first.result c.append_until_won-first.ensures.sent.0
          c.me.view_is e.2 e.3 table c.write_record.ensures.known c.append_until_won-first.ensures.sent.1,
    )

pub returns-clause-marked : goal.returns-clause-marked
returns-clause-marked g c =
    let answers = returns-clause-answers g c in
    search (marked_then, answers, arith)
