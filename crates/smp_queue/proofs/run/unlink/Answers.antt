use Rattle.std.proofs.Common.{ℕ, Option, refl, ap, sym}
use Rattle.smp_call_steps.specs.Drains.{unlink_after}
use Rattle.smp_queue.specs.{Call, Sync, Func, Info, Next, Load, Store}
use Rattle.smp_queue.proofs.Handling.Handles.{in_handle_ready}
use Rattle.smp_queue.proofs.Handling.Going.{sync_info_at, sync_goes}
use Rattle.smp_queue.specs.handle
use Rattle.smp_queue.proofs.run.unlink.Goals as goal

pub load-func-requires : goal.load-func-requires
load-func-requires c = in_handle_ready c.requires.at (Load (Func c.args.id)) tt refl

pub load-info-requires : goal.load-info-requires
load-info-requires c =
    let l1 = c.load-func.ensures in
    in_handle_ready (sync_info_at c.args.seat.now _ _ _ 0 c.requires.at l1) (Load (Info c.args.id)) tt refl

pub store-requires : goal.store-requires
store-requires c =
    let l1 = c.load-func.ensures in
    let l2 = c.load-info.ensures in
    let call : Call = record { id = c.args.id; class = Sync; func = c.load-func.result; info = c.load-info.result } in
    let at = sync_goes _ _ _ _ _ c.requires.at l1 l2 (handle.Unlink c.args.walk c.in-Some.last call c.args.next)
    (ap (λ (x : Option ℕ). unlink_after x c.args.walk call c.args.next) c.in-Some.is) in
    in_handle_ready at (Store (Next c.in-Some.last) c.link_of.result) tt (ap (λ (n : ℕ). Store (Next c.in-Some.last) n) (sym c.link_of.ensures))
