use Rattle.std.proofs.Common.{◌≡◌, ap, sym, subst, ◌∙◌}
use Rattle.smp_queue.specs.{CallSeatView, IsCpuSeat, SeatInvariant, known, noted}
use Rattle.smp_queue.proofs.TheRule.Keeps.{note_stays, note_sits}
use Rattle.smp_queue.proofs.seat.access.note_call.Goals as goal

pub retell-requires : goal.retell-requires
retell-requires c = (ap (λ d. d.table) c.seat.view_is ∙ c.requires, note_stays _ 0 _ c.seat.inside.raw.me c.seat.invariant.0)

pub invariant_of-seat : goal.invariant_of-seat
invariant_of-seat c =
    let e : c.retell.new.seat.me.0 ≡ noted c.seat.inside.raw.me.0 = ap (λ m. m.0) c.retell.ensures.2 in
    subst (λ (m : CallSeatView). IsCpuSeat m × SeatInvariant (known m)) (sym e) (tt, note_sits c.seat.inside.raw.me.0 c.seat.invariant.1)
