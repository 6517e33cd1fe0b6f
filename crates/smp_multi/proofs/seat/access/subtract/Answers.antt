use Rattle.std.proofs.Common.{arith, ap, ◌∙◌, Some}
use Rattle.smp_stop_steps.specs.Threads.KnownAfter.{known_told}
use Rattle.smp_words.specs.Access.{one_less}
use Rattle.smp_multi.specs.Names.{KnownStops, StopSeatView}
use Rattle.smp_multi.specs.Names.act
use Rattle.smp_multi.specs.Rule.{known}
use Rattle.smp_multi.proofs.Carrying.{sub_keeps}
use Rattle.smp_multi.proofs.Cells.{cell_below}
use Rattle.smp_multi.proofs.Keeps.{sub_allowed, can_same, seat_on}
use Rattle.smp_multi.proofs.seat.access.subtract.Goals as goal

pub cell-requires : goal.cell-requires
cell-requires c = c.requires.able.cell

pub subtract-requires : goal.subtract-requires
subtract-requires c = let r = c.requires.able in let low = cell_below c.args.word c.cell.result c.cell.ensures in let w = r.sized in (
  ap (λ d. d.table) c.seat.view_is ∙ r.table_is,
  omega arith,
  sub_allowed _ _ _ _ c.seat.invariant.is c.seat.invariant.online c.args.word c.cell.result c.cell.ensures
      (can_same _ _ _ (ap (λ d. d.known) c.seat.view_is) r.can) c.requires.able.fits,
)

pub invariant_of-seat : goal.invariant_of-seat
invariant_of-seat c = seat_on _ _ _ (c.subtract.ensures.2.1 c.args.word c.cell.ensures).1 c.subtract.ensures.2.0 c.seat.invariant.fits
    (sub_keeps (known c.seat.inside.raw.me.0) c.args.word c.subtract.result _ ∙ c.seat.invariant.carries)

pub returns-clause-known : goal.returns-clause-known
returns-clause-known c =
    let told = c.subtract.ensures.2.1 c.args.word c.cell.ensures in
    ap (λ (s : StopSeatView). known s) told.1
    ∙ ap (λ (v : KnownStops). known_told v act.Sub c.args.word (Some c.subtract.result) (Some (one_less c.subtract.result)))
    (ap (λ d. d.known) c.seat.view_is)
