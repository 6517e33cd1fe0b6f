use Rattle.std.proofs.Common.{arith, ap, subst, ◌∙◌, ◌≡◌, Some, bit_and}
use Rattle.smp_multi.specs.Lives.{StopMoment}
use Rattle.smp_stop_steps.specs.Threads.KnownAfter.{known_entering}
use Rattle.smp_stop_steps.specs.Threads.Moves.{entering}
use Rattle.smp_multi.specs.Names.{KnownStops, StopSeatView}
use Rattle.smp_multi.specs.Names.act
use Rattle.smp_multi.specs.Rule.{known}
use Rattle.smp_multi.proofs.Carrying.{and_keeps}
use Rattle.smp_multi.proofs.Cells.{cell_below}
use Rattle.smp_multi.proofs.Keeps.{and_allowed, can_same, seat_on}
use Rattle.smp_multi.proofs.seat.access.mask.Goals as goal

pub cell-requires : goal.cell-requires
cell-requires c = c.requires.able.cell

pub mask-requires : goal.mask-requires
mask-requires c = let r = c.requires.able in let low = cell_below c.args.word c.cell.result c.cell.ensures in let w = r.sized in (
  ap (λ d. d.table) c.seat.view_is ∙ r.table_is,
  omega arith,
  and_allowed _ _ _ _ c.seat.invariant.is c.seat.invariant.online c.args.word c.cell.result c.args.number c.cell.ensures
      (can_same _ _ _ (ap (λ d. d.known) c.seat.view_is) r.can) c.requires.able.fits,
)

pub invariant_of-seat : goal.invariant_of-seat
invariant_of-seat c = seat_on _ _ _ (c.mask.ensures.2.1 c.args.word c.cell.ensures).1 c.mask.ensures.2.0 c.seat.invariant.fits
    (and_keeps _ (known c.seat.inside.raw.me.0) c.args.word c.mask.result _ ∙ c.seat.invariant.carries)

-- the moment, of what the caller sees
pub returns-clause-known : goal.returns-clause-known
returns-clause-known c =
    let n = c.mask.result in
    let e = c.mask.ensures.2.1 c.args.word c.cell.ensures in
    subst (λ (v : KnownStops). (t : StopMoment v c.args.word n)
    × (known c.mask.new.seat.me.0 ≡ known_entering (entering t.stops c.args.word) v act.And c.args.word (Some n)
    (Some (bit_and n c.args.number))))
    (ap (λ d. d.known) c.seat.view_is) (
      e.0,
      ap (λ (s : StopSeatView). known s) e.1,
    )
