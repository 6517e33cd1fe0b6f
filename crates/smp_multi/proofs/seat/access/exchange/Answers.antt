use Rattle.std.proofs.Common.{arith, ap, subst, ◌∙◌, Some, None, cond, ◌==◌}
use Rattle.smp_multi.specs.Lives.{StopMoment}
use Rattle.smp_stop_steps.specs.Threads.KnownAfter.{known_told}
use Rattle.smp_multi.specs.Names.{KnownStops, StopSeatView}
use Rattle.smp_multi.specs.Names.act
use Rattle.smp_multi.specs.Rule.{known}
use Rattle.smp_multi.proofs.Carrying.{exchange_keeps}
use Rattle.smp_multi.proofs.Cells.{cell_below}
use Rattle.smp_multi.proofs.Keeps.{exchange_allowed, can_same, seat_on}
use Rattle.smp_multi.proofs.seat.access.exchange.Goals as goal

pub cell-requires : goal.cell-requires
cell-requires c = c.requires.able.cell

pub exchange-requires : goal.exchange-requires
exchange-requires c = let r = c.requires.able in let low = cell_below c.args.word c.cell.result c.cell.ensures in let w = r.sized in (
  ap (λ d. d.table) c.seat.view_is ∙ r.table_is,
  omega arith,
  exchange_allowed _ _ _ _ c.seat.invariant.is c.seat.invariant.online c.args.word c.cell.result c.args.expected c.args.number c.cell.ensures
      (can_same _ _ _ (ap (λ d. d.known) c.seat.view_is) r.can) c.requires.able.fits,
)

pub invariant_of-seat : goal.invariant_of-seat
invariant_of-seat c = seat_on _ _ _ (c.exchange.ensures.2.1 c.args.word c.cell.ensures).1 c.exchange.ensures.2.0 c.seat.invariant.fits
    (exchange_keeps (known c.seat.inside.raw.me.0) c.args.word c.exchange.result _ ∙ c.seat.invariant.carries)

pub returns-clause-known : goal.returns-clause-known
returns-clause-known c =
    let told = c.exchange.ensures.2.1 c.args.word c.cell.ensures in
    ap (λ (s : StopSeatView). known s) told.1
    ∙ ap (λ (v : KnownStops). known_told v act.Cas c.args.word (Some c.exchange.result)
    (cond (c.exchange.result == c.args.expected) (Some c.args.number) None)) (ap (λ d. d.known) c.seat.view_is)

pub returns-clause-then : goal.returns-clause-then
returns-clause-then c = subst (λ (v : KnownStops). StopMoment v c.args.word c.exchange.result) (ap (λ d. d.known) c.seat.view_is)
    (c.exchange.ensures.2.1 c.args.word c.cell.ensures).0
