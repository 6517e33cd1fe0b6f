use Rattle.std.proofs.Common.{◌≡◌, ℤ, pos, [], SFits, w32, rules, sym, ap, ◌∙◌, subst}
use Rattle.std.proofs.lemmas.Int.{to_z-of_z}
use Rattle.smp_labels.specs.Keys.{edge_of}
use Rattle.smp_labels.specs.declared.keys.Change.{Change}
use Rattle.smp_machine.specs.Counts.{step_of}
use Rattle.smp_machine.specs.Keys.{IsPatchOf}
use Rattle.smp_machine.specs.Moves.{patch_after}
use Rattle.smp_machine.specs.MachineCpu.{MachineValue}
use Rattle.smp_machine.specs.Stops.{HasStopped}
use Rattle.smp_machine.proofs.KeyCounts.{edge_is}
use Rattle.smp_machine.proofs.key_count.patch_by_one.Goals as goal
use mir.Val.{to_z, of_z}

pub returns-then-answer-eq0 : goal.returns-then-answer-eq0
returns-then-answer-eq0 g c =
    let work = c.patch_work-work.result in
    let fits : SFits w32 c.patch-answer.result = search rules in
    let zero : c.patch-answer.result ≡ pos 0 = sym (to_z-of_z w32 c.patch-answer.result fits) ∙ ap (to_z w32) c.if-answer-eq0.true in
    record {
      work = work;
      patch = subst (λ (m : MachineValue). IsPatchOf m.stops c.args.key.k (step_of c.args.key.up) work) c.machine.view_is
          (subst (λ (x : Change). IsPatchOf c.machine.inside.stops c.args.key.k x work) c.step-change.ensures c.patch_work-work.ensures.patch);
      stopped = subst (λ (v : ℤ). HasStopped g.H.Handler.leads g.F.StopFunc.leads (patch_after []) work c.args.me.now c.args.handler.now c.args.run.now
          c.patch-answer.new.me c.patch-answer.new.handler c.patch-answer.new.run v) zero c.patch-answer.ensures.stopped;
      last = c.patch-answer.ensures.last;
    }

pub returns-else-answer-eq0 : goal.returns-else-answer-eq0
returns-else-answer-eq0 g c =
    let work = c.patch_work-work.result in (
      c.edge.ensures ∙ (ap edge_of c.step-change.ensures ∙ edge_is c.args.key.up),
      (
        c.patch-answer.result,
        (λ (e : c.patch-answer.result ≡ pos 0). c.if-answer-eq0.false (ap (of_z w32) e)),
        record {
          work = work;
          patch = subst (λ (m : MachineValue). IsPatchOf m.stops c.args.key.k (step_of c.args.key.up) work) c.machine.view_is
              (subst (λ (x : Change). IsPatchOf c.machine.inside.stops c.args.key.k x work) c.step-change.ensures c.patch_work-work.ensures.patch);
          stopped = c.patch-answer.ensures.stopped;
          last = c.patch-answer.ensures.last;
        },
      ),
    )
