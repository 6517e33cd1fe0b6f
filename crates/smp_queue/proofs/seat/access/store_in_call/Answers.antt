use Rattle.std.proofs.Common.{◌≡◌, Some, None, arith, ap, subst, ◌∙◌}
use Rattle.smp_call_steps.specs.Threads.Known.{known_told}
use Rattle.smp_queue.specs.{Store, KnownCalls, known}
use Rattle.smp_queue.specs.act
use Rattle.smp_queue.proofs.TheRule.Cells.{cell_below}
use Rattle.smp_queue.proofs.TheRule.Keeps.{store_allowed, can_same, reach_same}
use Rattle.smp_queue.proofs.Handling.Handles.{in_handle_can, in_handle_cell, in_handle_reaches}
use Rattle.smp_queue.proofs.seat.access.store_in_call.Goals as goal

pub cell-requires : goal.cell-requires
cell-requires c = let r = c.requires in in_handle_cell r.at (Store c.args.word c.args.number) r.is_access

pub store-requires : goal.store-requires
store-requires c = let r = c.requires in let low = cell_below c.args.word c.cell.result c.cell.ensures in let w = r.at.sized in (
  ap (λ d. d.table) c.seat.view_is ∙ r.at.table_is,
  omega arith,
  store_allowed _ _ _ _ c.seat.invariant.0 c.args.word c.cell.result c.args.number c.cell.ensures
      (can_same _ _ _ (ap (λ d. d.known) c.seat.view_is) (in_handle_can r.at (Store c.args.word c.args.number) r.is_access))
      (reach_same c.args.words.shared.now.key _ _ (Store c.args.word c.args.number) (ap (λ d. d.known) c.seat.view_is)
      (in_handle_reaches r.at c.args.words.shared.now.key (Store c.args.word c.args.number) r.is_access)),
)

pub returns-clause-lives : goal.returns-clause-lives
returns-clause-lives c = let s = c.store.ensures.2.0.0 in s.lives

pub returns-clause-known : goal.returns-clause-known
returns-clause-known c = let e = c.store.ensures.2.0.1 c.args.word c.cell.ensures in
    subst (λ (v : KnownCalls). known c.store.new.seat.me.0 ≡ known_told v act.Store c.args.word None (Some c.args.number))
    (ap (λ d. d.known) c.seat.view_is) (ap known e)

pub returns-clause-put : goal.returns-clause-put
returns-clause-put c = let e = c.store.ensures.2.1 in (e.0, e.1 c.args.word c.cell.ensures)
