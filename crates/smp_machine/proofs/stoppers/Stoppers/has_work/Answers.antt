use Rattle.std.proofs.Common.{◌<◌, ℕ, ◌∙◌, sym, ap, subst}
use Rattle.smp_machine.specs.Passes.{PassesValue, IsPuts}
use Rattle.smp_machine.proofs.Held.{same_at, held_put, has_not}
use Rattle.smp_machine.proofs.stoppers.Stoppers.has_work.Goals as goal

pub is_empty_as-requires-clause-queue : goal.is_empty_as-requires-clause-queue
is_empty_as-requires-clause-queue g c =
    let i = c.args.cpu in
    let p = c.index_mut-by.result.now in
    let within : i < 32 = c.requires.within in (
      same_at (λ y. y.table_id) (λ q. q.table.shared.table_id) c.me.inside.to.items c.self.inside.queues.items i p c.index.result.now
          (ap (λ (v : PassesValue). v.queues) c.me.view_is ∙ (c.requires.queues ∙ sym c.self.view_is))
          (subst (λ (n : ℕ). i < n) (sym c.me.invariant.sized) within) (subst (λ (n : ℕ). i < n) (sym c.self.invariant) within)
          c.index_mut-by.ensures.value c.index.ensures,
      (c.me.invariant.sources i p within c.index_mut-by.ensures.value).empty,
    )

pub is_empty_as-requires-clause-rule : goal.is_empty_as-requires-clause-rule
is_empty_as-requires-clause-rule g c = λ items views h at. tt

pub invariant_of-me : goal.invariant_of-me
invariant_of-me g c =
    let p = c.index_mut-by.result.now in
    let at = c.index_mut-by.ensures.value in
    let held = c.me.invariant.sources c.args.cpu p c.requires.within at in
    let e = c.is_empty_as.ensures.queue in
    held_put c.me.inside.number c.me.inside.to.items c.me.inside.own c.me.invariant c.args.cpu p c.is_empty_as.new.pass c.requires.within at
    e.0.0 (e.0.2 ∙ held.empty) (subst (IsPuts c.me.inside.number) (sym e.1) held.puts)

pub returns : goal.returns
returns g c =
    let e = c.is_empty_as.ensures.queue in
    has_not c.me.inside.number c.me.inside.to.items c.me.inside.own c.me.invariant c.args.cpu c.index_mut-by.result.now c.is_empty_as.new.pass
    c.index_mut-by.ensures.value e.0.0 e.1 ∙ c.me.view_is
