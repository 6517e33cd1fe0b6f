use Rattle.std.proofs.Common.{arith, ℕ, ◌+◌, ◌%◌, ◌^◌, set, get_or, sym, ap, ◌∙◌, subst}
use Rattle.smp_words.specs.Size.{record_of}
use Rattle.smp_queue.specs.{Posting, CpuValue, IsKept}
use Rattle.smp_queue.proofs.Posts.Kept.{kept_posted}
use Rattle.smp_queue.proofs.Posts.Own.{mine_of, posts_then, gives_up_then}
use Rattle.smp_queue.proofs.Posts.Shown.{free_then, marked_then}
use Rattle.smp_queue.proofs.table.CallTable.post_within.Goals as goal

pub write_record-requires-clause-mine : goal.write_record-requires-clause-mine
write_record-requires-clause-mine g c = search (mine_of, arith)

pub invariant_of-me : goal.invariant_of-me
invariant_of-me g c =
    let e = c.in_ok-posting.ensures in
    let may = e.4 in
    subst (λ (n : ℕ). IsKept c.append.new.seat.known c.me.inside.number (set c.me.inside.queued n ((get_or c.me.inside.queued n 0 + 1) % 2 ^ 64))
    c.me.inside.ran) (ap (λ (p : Posting). p.to) e.3)
    (kept_posted c.me.inside.seat.known c.write_record.new.seat.known c.append.new.seat.known c.me.inside.number c.me.inside.queued c.me.inside.ran
    c.in_ok-posting.posting c.in-Some.first c.in-Some.ensures.sent.0 c.me.invariant
    may.to_in_range c.write_record.ensures.known c.in-Some.ensures.sent.2)

pub returns-in-Some-clause-answers : goal.returns-in-Some-clause-answers
returns-in-Some-clause-answers g c =
    let e = c.in_ok-posting.ensures in
    let table = c.append.ensures.table ∙ (c.words-words.ensures.table ∙ (ap (λ t. t.table) c.self.view_is ∙ sym c.requires)) in (
      e.0,
      e.1,
      c.in-Some.ensures.sent.0,
      c.in-Some.ensures.sent.2.others,
      c.in-Some.ensures.sent.2.first_is,
      posts_then c.me.inside.seat c.append.new.seat c.write_record.new.seat.known c.args.me.now c.begin_post.new.me c.args.k c.args.to c.args.func c.args.info
          c.args.class c.in_ok-posting.posting c.in-Some.first c.in-Some.ensures.sent.0
          c.me.view_is e.2 e.3 table c.write_record.ensures.known c.in-Some.ensures.sent.2,
    )

pub returns-in-Some-clause-marked : goal.returns-in-Some-clause-marked
returns-in-Some-clause-marked g c =
    let answers = returns-in-Some-clause-answers g c in
    search (marked_then, answers, arith)

pub returns-in-None-clause-answers : goal.returns-in-None-clause-answers
returns-in-None-clause-answers g c = search (gives_up_then, arith)

pub returns-in-None-clause-free : goal.returns-in-None-clause-free
returns-in-None-clause-free g c _ =
    let e = c.in_ok-posting.ensures in
    let new : CpuValue = c.begin_post.new.me in
    free_then c.append.new.seat c.append.ensures.lives c.me.inside.seat.known c.write_record.new.seat.known new c.in_ok-posting.posting c.args.k
    c.in-None.ensures.lost.0 c.in-None.ensures.lost.2 c.write_record.ensures.known (ap (λ (x : CpuValue). x.part) c.me.view_is) (ap (λ
    (x : CpuValue). x.number) c.me.view_is) e.4
    (ap (λ (p : Posting). p.id) e.3 ∙ ap (λ (x : CpuValue). record_of x.number c.args.k) (sym e.2))
