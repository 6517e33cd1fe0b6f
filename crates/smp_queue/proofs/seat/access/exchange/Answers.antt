use Rattle.std.proofs.Common.{arith, ap, ◌∙◌}
use Rattle.smp_queue.specs.{Exchange}
use Rattle.smp_queue.proofs.TheRule.Keeps.{exchange_allowed, can_same, reach_same}
use Rattle.smp_queue.proofs.TheRule.Cells.{cell_below}
use Rattle.smp_queue.proofs.seat.access.exchange.Goals as goal

pub exchange-requires : goal.exchange-requires
exchange-requires c = let r = c.requires in let low = cell_below c.args.word c.cell.result c.cell.ensures in let w = r.sized in (
  ap (λ d. d.table) c.seat.view_is ∙ r.table_is,
  omega arith,
  exchange_allowed _ _ _ _ c.seat.invariant.0 c.args.word c.cell.result c.args.expected c.args.number c.cell.ensures
      (can_same _ _ _ (ap (λ d. d.known) c.seat.view_is) r.can) (reach_same c.args.words.shared.now.key _ _
      (Exchange c.args.word c.args.expected c.args.number) (ap (λ d. d.known) c.seat.view_is) r.reaches),
)
