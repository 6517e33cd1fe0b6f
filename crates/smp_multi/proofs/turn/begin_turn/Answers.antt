use Rattle.std.proofs.Common.{◌≡◌, true, rules, ap, sym, subst, ◌∙◌}
use Rattle.smp_mask.specs.Mask.{has}
use Rattle.smp_stop_steps.specs.Threads.Known.{stepped}
use Rattle.smp_stop_steps.specs.Threads.KnownAfter.{looked_known}
use Rattle.smp_words.specs.declared.phase.TheConstants.{DISABLE_IRQ, RUN}
use Rattle.smp_multi.specs.Names.{Patch}
use Rattle.smp_multi.specs.Running.{calls_now}
use Rattle.smp_multi.specs.Turns.{HasRunFunction, no_call}
use Rattle.smp_multi.proofs.Counting.{then_steps}
use Rattle.smp_multi.proofs.Patching.{has_patched}
use Rattle.smp_multi.proofs.turn.begin_turn.Goals as goal

pub returns-then-eq-clause-goes : goal.returns-then-eq-clause-goes
returns-then-eq-clause-goes c =
    let v = c.args.visit in
    let k = c.args.seat.now.known in
    let p = c.patch_on-visit.ensures.patched in
    let run : c.look-state.result ≡ RUN = search rules in
    let active : has v.active k.number ≡ true = search rules in
    let disabled : v.acked ≡ DISABLE_IRQ = search rules in
    let kind : v.kind ≡ Patch = search rules in
    let looked = c.look-state.ensures.known ∙ ap (λ n. stepped 1 (looked_known n k)) run in (
      c.patch_on-visit.ensures.at,
      (
        disabled,
        active,
        subst (HasRunFunction no_call k c.patch_on-visit.new.seat.known v c.patch_on-visit.result tt tt) (sym kind)
            (has_patched no_call k c.look-state.new.seat.known c.patch_on-visit.new.seat.known v c.patch_on-visit.result tt p.0 looked p.1 p.2 p.3),
      ),
    )

pub returns-then-calls_at-clause-goes : goal.returns-then-calls_at-clause-goes
returns-then-calls_at-clause-goes c =
    let k = c.args.seat.now.known in
    let run : c.look-state.result ≡ RUN = search rules in
    let looked = c.look-state.ensures.known ∙ ap (λ n. stepped 1 (looked_known n k)) run in
    (c.begin_run-func.ensures.at, then_steps 1 2 _ _ _ (ap calls_now looked) c.begin_run-func.ensures.known, c.begin_run-func.ensures.call)
