use Rattle.std.proofs.Common.{arith, refl, sym, ap, ◌∙◌}
use Rattle.smp_call_steps.specs.Drains.{by_class, record_at}
use Rattle.smp_queue.specs.{Class, Flags, KnownCalls, Next, Load}
use Rattle.smp_queue.proofs.Handling.Handles.{in_handle_ready}
use Rattle.smp_queue.proofs.Handling.Going.{first_at, found_fits, sync_flags_at, class_goes, class_kept, kept_on}
use Rattle.smp_queue.proofs.Handling.Ahead.{ahead_less, ahead_then}
use Rattle.smp_queue.proofs.run.next_sync.Goals as goal

pub load-link-requires : goal.load-link-requires
load-link-requires c =
    let here = first_at c.loop-id.walk (sym c.linked.ensures ∙ c.in-Some.is) c.loop-id.invariant.1.at in
    in_handle_ready here (Load (Next c.in-Some.id)) tt refl

pub load-flags-requires : goal.load-flags-requires
load-flags-requires c =
    let here = first_at c.loop-id.walk (sym c.linked.ensures ∙ c.in-Some.is) c.loop-id.invariant.1.at in
    let l1 = c.load-link.ensures in
    in_handle_ready (sync_flags_at c.loop-id.seat _ _ 0 here l1) (Load (Flags c.in-Some.id)) tt refl

pub linked-next-requires : goal.linked-next-requires
linked-next-requires c =
    let here = first_at c.loop-id.walk (sym c.linked.ensures ∙ c.in-Some.is) c.loop-id.invariant.1.at in
    search (found_fits, here, arith)

pub loop-id-smaller : goal.loop-id-smaller
loop-id-smaller c =
    let is = sym c.linked.ensures ∙ c.in-Some.is in
    let here = first_at c.loop-id.walk is c.loop-id.invariant.1.at in
    let l1 = c.load-link.ensures in
    let known = class_kept _ _ _ _ here l1 c.load-flags.ensures in
    ahead_then _ _ _ _ c.in-Some.id c.load-link.result is refl (ap (λ (u : KnownCalls). u.part.taken) known) (ahead_less _ _ _ _ _ here l1.moment)

pub loop-id-preserved : goal.loop-id-preserved
loop-id-preserved c =
    let here = first_at c.loop-id.walk (sym c.linked.ensures ∙ c.in-Some.is) c.loop-id.invariant.1.at in
    let l1 = c.load-link.ensures in
    let l2 = c.load-flags.ensures in
    let known = class_kept _ _ _ _ here l1 l2 in
    let goes =
    class_goes _ c.loop-id.walk c.in-Some.id _ here l1 l2 _
    (ap (λ (k : Class). by_class k c.loop-id.walk c.in-Some.id (record_at c.load-link.result)) (sym c.of_flags.ensures ∙ c.in-Async.is)) in (
      search (found_fits, here, arith),
      record {
        at = goes;
        known_is = kept_on c.args.seat.now.known c.loop-id.seat.known c.load-flags.new.seat.known c.loop-id.invariant.1.known_is known;
      },
    )
