use Rattle.std.proofs.Common.{rules, arith, ap, ◌∙◌}
use Rattle.smp_queue.proofs.TheRule.Keeps.{load_allowed, can_same}
use Rattle.smp_queue.proofs.TheRule.Cells.{cell_below}
use Rattle.smp_queue.proofs.seat.access.load.Goals as goal

pub load-requires : goal.load-requires
load-requires c = let r = c.requires in let low = cell_below c.args.word c.cell.result c.cell.ensures in let w = r.sized in (
  ap (λ d. d.table) c.seat.view_is ∙ r.table_is,
  omega arith,
  load_allowed _ _ _ _ c.seat.invariant.0 c.args.word c.cell.result c.cell.ensures
      (can_same _ _ _ (ap (λ d. d.known) c.seat.view_is) r.can),
)

pub returns : goal.returns
returns c =
    let told = c.load.ensures.2.1 c.args.word c.cell.ensures in
    search (rules, told, arith)
