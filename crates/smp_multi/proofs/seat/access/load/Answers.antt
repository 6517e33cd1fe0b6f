use Rattle.std.proofs.Common.{arith, ap, subst, ◌∙◌, Some, None}
use Rattle.smp_multi.specs.Lives.{StopMoment}
use Rattle.smp_stop_steps.specs.Threads.KnownAfter.{known_told}
use Rattle.smp_multi.specs.Names.{KnownStops, StopSeatView}
use Rattle.smp_multi.specs.Names.act
use Rattle.smp_multi.specs.Rule.{known}
use Rattle.smp_multi.proofs.Carrying.{load_keeps}
use Rattle.smp_multi.proofs.Cells.{cell_below}
use Rattle.smp_multi.proofs.Keeps.{load_allowed, can_same, seat_on}
use Rattle.smp_multi.proofs.seat.access.load.Goals as goal

pub cell-requires : goal.cell-requires
cell-requires c = c.requires.able.cell

pub load-requires : goal.load-requires
load-requires c = let r = c.requires.able in let low = cell_below c.args.word c.cell.result c.cell.ensures in let w = r.sized in (
  ap (λ d. d.table) c.seat.view_is ∙ r.table_is,
  omega arith,
  load_allowed _ _ _ _ c.seat.invariant.is c.seat.invariant.online c.args.word c.cell.result c.cell.ensures
      (can_same _ _ _ (ap (λ d. d.known) c.seat.view_is) r.can),
)

pub invariant_of-seat : goal.invariant_of-seat
invariant_of-seat c = seat_on _ _ _ (c.load.ensures.2.1 c.args.word c.cell.ensures).1 c.load.ensures.2.0 c.seat.invariant.fits
    (load_keeps (known c.seat.inside.raw.me.0) c.args.word c.load.result ∙ c.seat.invariant.carries)

pub returns-clause-known : goal.returns-clause-known
returns-clause-known c =
    let told = c.load.ensures.2.1 c.args.word c.cell.ensures in
    ap (λ (s : StopSeatView). known s) told.1
    ∙ ap (λ (v : KnownStops). known_told v act.Load c.args.word (Some c.load.result) None) (ap (λ d. d.known) c.seat.view_is)

pub returns-clause-then : goal.returns-clause-then
returns-clause-then c = subst (λ (v : KnownStops). StopMoment v c.args.word c.load.result) (ap (λ d. d.known) c.seat.view_is)
    (c.load.ensures.2.1 c.args.word c.cell.ensures).0
