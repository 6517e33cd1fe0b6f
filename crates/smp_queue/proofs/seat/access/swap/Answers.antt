use Rattle.std.proofs.Common.{arith, ap, subst, ◌∙◌, ◌≡◌, Some}
use Rattle.smp_call_steps.specs.Threads.Known.{CallMoment, known_taking}
use Rattle.smp_queue.specs.{Swap, KnownCalls, known}
use Rattle.smp_queue.proofs.TheRule.Keeps.{swap_allowed, can_same, reach_same}
use Rattle.smp_queue.proofs.TheRule.Cells.{cell_below}
use Rattle.smp_queue.specs.act
use Rattle.smp_queue.proofs.seat.access.swap.Goals as goal

pub swap-requires : goal.swap-requires
swap-requires c = let r = c.requires in let low = cell_below c.args.word c.cell.result c.cell.ensures in let w = r.sized in (
  ap (λ d. d.table) c.seat.view_is ∙ r.table_is,
  omega arith,
  swap_allowed _ _ _ _ c.seat.invariant.0 c.args.word c.cell.result c.args.number c.cell.ensures
      (can_same _ _ _ (ap (λ d. d.known) c.seat.view_is) r.can) (reach_same c.args.words.shared.now.key _ _ (Swap c.args.word c.args.number)
      (ap (λ d. d.known) c.seat.view_is) r.reaches),
)

-- the moment, of what the caller sees
pub returns-clause-known : goal.returns-clause-known
returns-clause-known c = let e = c.swap.ensures.2.1 c.args.word c.cell.ensures in
    subst (λ (v : KnownCalls). (t : CallMoment v c.args.word c.swap.result)
    × (known c.swap.new.seat.me.0 ≡ known_taking (t.lives.calls.queue v.number) v act.Swap c.args.word (Some c.swap.result) (Some c.args.number)))
    (ap (λ d. d.known) c.seat.view_is) (e.0, ap known e.1)
