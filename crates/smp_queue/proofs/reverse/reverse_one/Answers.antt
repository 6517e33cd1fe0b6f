use Rattle.std.proofs.Common.{arith, ℕ, ◌<◌, refl, ap, sym, subst}
use Rattle.smp_call_steps.specs.Drains.{record_at}
use Rattle.smp_words.specs.declared.size.TheConstants.{MOST_CALLS}
use Rattle.smp_call_steps.proofs.Knows.Handling.{lives_fits, next_stored_is}
use Rattle.smp_queue.specs.{Next, Load, Store, KnownCalls}
use Rattle.smp_queue.proofs.Handling.Handles.{in_handle_ready, in_handle_then}
use Rattle.smp_queue.proofs.Handling.Going.{next_known, next_goes, found_fits}
use Rattle.smp_queue.specs.handle
use Rattle.smp_queue.proofs.reverse.reverse_one.Goals as goal

pub load-link-requires : goal.load-link-requires
load-link-requires c = in_handle_ready c.requires (Load (Next c.args.id)) tt refl

pub linked-older-requires : goal.linked-older-requires
linked-older-requires c =
    let l = c.load-link.ensures in
    found_fits _ _ _ _ c.requires (Next c.args.id) c.load-link.result l refl

pub store-requires : goal.store-requires
store-requires c =
    let l = c.load-link.ensures in
    let at = next_goes _ c.requires c.args.id c.load-link.result (handle.ReverseStore c.args.newer c.args.id (record_at c.load-link.result)) l refl in
    in_handle_ready at (Store (Next c.args.id) c.link_of.result) tt (ap (λ (n : ℕ). Store (Next c.args.id) n) (sym c.link_of.ensures))

pub returns-clause-known : goal.returns-clause-known
returns-clause-known c = search (next_goes, next_stored_is, next_known, arith)

pub returns-clause-at : goal.returns-clause-at
returns-clause-at c = search (next_goes, next_stored_is, in_handle_then, arith)

pub returns-clause-room : goal.returns-clause-room
returns-clause-room c =
    let l = c.load-link.ensures in
    let at = next_goes _ c.requires c.args.id c.load-link.result (handle.ReverseStore c.args.newer c.args.id (record_at c.load-link.result)) l refl in
    let k = next_known _ c.requires c.args.id c.load-link.result l in
    let f = lives_fits at.lives (handle.ReverseStore c.args.newer c.args.id (record_at c.load-link.result)) at.stage_is in
    subst (λ (u : KnownCalls). u.drain.calls < MOST_CALLS) k f.1
