use Rattle.std.proofs.Common.{refl, sym, ap}
use Rattle.smp_call_steps.specs.Histories.{orders}
use Rattle.smp_calls.specs.Handles.{batches}
use Rattle.users.specs.Tlb.{Loses, without}
use Rattle.users.proofs.Flushed.{flushed_handled, left_all, still_flushed, gone}
use Rattle.users.proofs.shootdown.shoot.shoot_down.Goals as goal

pub returns-clause-ended : goal.returns-clause-ended
returns-clause-ended g c = rw (sym c.seat.view_is) at (c.in_ok-called.ensures.answers.ended refl)

pub returns-clause-own : goal.returns-clause-own
returns-clause-own g c = rw c.flush.ensures (gone c.args.space.now.id c.seat.inside.handler.entries.items)

pub returns-clause-flushed : goal.returns-clause-flushed
returns-clause-flushed g c flushed =
    let handled = flushed_handled _ _ _ _ c.in_ok-called.ensures.answers.calls.2.handled flushed in
    let left = still_flushed c.call_many.new.self.cpu.calls.part.ran c.args.space.now.id c.call_many.new.self.handler.entries.items handled in
    rw c.flush.ensures (rw (sym c.seat.view_is) at left)

pub returns-clause-loses : goal.returns-clause-loses
returns-clause-loses g c =
    let made = c.in_ok-called.ensures.answers.calls.2.handled in
    let heard = orders (batches made.turns) in
    let lost : Loses c.args.space.now.id c.args.seat.now.cpu.calls c.call_many.new.self.cpu.calls c.args.seat.now.handler.entries.items
    (without c.args.space.now.id c.call_many.new.self.handler.entries.items) =
    record {
      heard = heard;
      ran_is = made.ran_is;
      left = ap (without c.args.space.now.id) (left_all c.args.seat.now.handler heard c.call_many.new.self.handler made.grows);
    } in
    rw c.flush.ensures (rw (sym c.seat.view_is) at lost)
