use Rattle.std.proofs.Common.{refl, ap, subst, inr, true}
use Rattle.smp_queue.specs.{CpuValue, cpu_of, asks}
use Rattle.smp_queue.specs.Serving.{Begins, takes}
use Rattle.smp_queue.specs.HandsOut.{NextIs}
use Rattle.smp_queue.specs.declared.handle.Batch.{Batch}
use Rattle.std.proofs.Common.{Option}
use Rattle.smp_queue.proofs.Handling.Passing.{at_cpu, at_stands, kept_inside, kept_by, ran_still}
use Rattle.smp_queue.proofs.serve.start.Goals as goal

pub next_of-requires-clause-kept : goal.next_of-requires-clause-kept
next_of-requires-clause-kept c =
    let b = subst (λ (x : Option Batch). Begins c.args.words.shared.now.table_id c.me.inside.seat c.begin.new.seat x) c.in-Some.is c.begin.ensures in
    let e = at_cpu _ _ _ c.in-Some.batch.first b.2 in
    let k = kept_inside c.me.inside.seat.known c.me.inside.number c.me.inside.queued c.me.inside.ran c.me.invariant in
    kept_by c.me.inside.seat.known c.begin.new.seat (takes b.0 (asks true (cpu_of c.me.inside.seat))) _ _ _ _ k e refl refl refl refl
    (ran_still _ c.me.inside.seat.known c.begin.new.seat.known k.ran_are (ap (λ (x : CpuValue). x.part.ran) e))

pub next_of-requires-clause-at : goal.next_of-requires-clause-at
next_of-requires-clause-at c =
    let b = subst (λ (x : Option Batch). Begins c.args.words.shared.now.table_id c.me.inside.seat c.begin.new.seat x) c.in-Some.is c.begin.ensures in
    at_stands _ _ _ c.in-Some.batch.first b.2

pub returns-in-Some : goal.returns-in-Some
returns-in-Some c =
    let b = subst (λ (x : Option Batch). Begins c.args.words.shared.now.table_id c.me.inside.seat c.begin.new.seat x) c.in-Some.is c.begin.ensures in
    inr (
      b.0,
      subst (λ (me : CpuValue). NextIs (takes b.0 (asks true me)) c.next_of.result) c.me.view_is
          (subst (λ (x : CpuValue). NextIs x c.next_of.result) (at_cpu _ _ _ c.in-Some.batch.first b.2) c.next_of.ensures),
    )
