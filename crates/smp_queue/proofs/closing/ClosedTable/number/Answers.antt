use Rattle.std.proofs.Common.{ap, ◌∙◌}
use Rattle.smp_queue.specs.{number_in}
use Rattle.smp_queue.proofs.TheRule.Cells.{number_got}
use Rattle.smp_queue.proofs.closing.ClosedTable.number.Goals as goal

pub returns : goal.returns
returns g c = number_got _ c.args.word _ _ c.cell.ensures c.word.ensures ∙ ap (λ words. number_in words c.args.word) c.self.view_is
