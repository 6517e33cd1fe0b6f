use Rattle.std.proofs.Common.{arith, refl}
use Rattle.smp_queue.specs.{Func, Info, Next, Load}
use Rattle.smp_queue.proofs.Handling.Handles.{in_handle_ready}
use Rattle.smp_queue.proofs.Handling.Going.{found_fits, async_func_at, async_info_at, async_known}
use Rattle.smp_queue.proofs.run.next_async.Goals as goal

pub load-link-requires : goal.load-link-requires
load-link-requires c = in_handle_ready c.requires.at (Load (Next c.args.id)) tt refl

pub linked-next-requires : goal.linked-next-requires
linked-next-requires c =
    let here = c.requires.at in
    search (found_fits, here, arith)

pub load-func-requires : goal.load-func-requires
load-func-requires c =
    let l1 = c.load-link.ensures in
    in_handle_ready (async_func_at c.args.seat.now c.args.seat.now _ 0 0 c.requires.at l1) (Load (Func c.args.id)) tt refl

pub load-info-requires : goal.load-info-requires
load-info-requires c =
    let l1 = c.load-link.ensures in
    let l2 = c.load-func.ensures in
    in_handle_ready (async_info_at _ c.args.seat.now _ _ 0 c.requires.at l1 l2) (Load (Info c.args.id)) tt refl

pub returns-clause-known : goal.returns-clause-known
returns-clause-known c =
    let l1 = c.load-link.ensures in
    let l2 = c.load-func.ensures in
    let l3 = c.load-info.ensures in
    async_known _ _ _ _ _ c.requires.at l1 l2 l3
