use Rattle.std.proofs.Common.{arith, ap, ◌∙◌, Some, None}
use Rattle.smp_stop_steps.specs.Threads.KnownAfter.{known_told}
use Rattle.smp_multi.specs.Names.{KnownStops, StopSeatView}
use Rattle.smp_multi.specs.Names.act
use Rattle.smp_multi.specs.Rule.{known}
use Rattle.smp_multi.proofs.Carrying.{store_keeps}
use Rattle.smp_multi.proofs.Cells.{cell_below}
use Rattle.smp_multi.proofs.Keeps.{store_allowed, can_same, seat_on}
use Rattle.smp_multi.proofs.seat.access.store_any.Goals as goal

pub cell-requires : goal.cell-requires
cell-requires c = c.requires.cell

pub store-requires : goal.store-requires
store-requires c = let r = c.requires in let low = cell_below c.args.word c.cell.result c.cell.ensures in let w = r.sized in (
  ap (λ d. d.table) c.seat.view_is ∙ r.table_is,
  omega arith,
  store_allowed _ _ _ _ c.seat.invariant.is c.seat.invariant.online c.args.word c.cell.result c.args.number c.cell.ensures
      (can_same _ _ _ (ap (λ d. d.known) c.seat.view_is) r.can) c.requires.fits,
)

pub invariant_of-seat : goal.invariant_of-seat
invariant_of-seat c = seat_on _ _ _ (c.store.ensures.2.1 c.args.word c.cell.ensures) c.store.ensures.2.0 c.seat.invariant.fits
    (store_keeps (known c.seat.inside.raw.me.0) c.args.word c.args.number ∙ c.seat.invariant.carries)

pub returns-clause-known : goal.returns-clause-known
returns-clause-known c =
    let told = c.store.ensures.2.1 c.args.word c.cell.ensures in
    ap (λ (s : StopSeatView). known s) told
    ∙ ap (λ (v : KnownStops). known_told v act.Store c.args.word None (Some c.args.number)) (ap (λ d. d.known) c.seat.view_is)
