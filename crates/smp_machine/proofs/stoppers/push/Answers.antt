use Rattle.std.proofs.Common.{◌<◌, ℕ, ◌∙◌, sym, ap, subst}
use Rattle.crossbeam_queue.specs.Passes.{view}
use Rattle.smp_machine.specs.Passes.{PassesValue, puts}
use Rattle.smp_machine.proofs.Moves as moves
use Rattle.smp_machine.proofs.Held.{same_at, match_ok, match_err, puts_are, still_puts, held_put, has_put, has_not, put_shown}
use Rattle.smp_machine.proofs.stoppers.push.Goals as goal

pub push_as-requires-clause-queue : goal.push_as-requires-clause-queue
push_as-requires-clause-queue g c =
    let i = c.args.to.cpu in
    let p = c.index_mut-pass.result.now in
    let within : i < 32 = c.requires.within in (
      same_at (λ y. y.table_id) (λ q. q.table.shared.table_id) c.me.inside.to.items c.stoppers.inside.queues.items i p c.index.result.now
          (ap (λ (v : PassesValue). v.queues) c.me.view_is ∙ (c.requires.queues ∙ sym c.stoppers.view_is))
          (subst (λ (n : ℕ). i < n) (sym c.me.invariant.sized) within) (subst (λ (n : ℕ). i < n) (sym c.stoppers.invariant) within)
          c.index_mut-pass.ensures.value c.index.ensures,
      (c.me.invariant.sources i p within c.index_mut-pass.ensures.value).empty,
    )

pub push_as-requires-clause-rule : goal.push_as-requires-clause-rule
push_as-requires-clause-rule g c =
    let p = c.index_mut-pass.result.now in
    let is = (c.me.invariant.sources c.args.to.cpu p c.requires.within c.index_mut-pass.ensures.value).puts in (
      moves.puts _ _ _ _ _ _ _ _ (puts_are c.me.inside.number (view p) is)
          (c.requires.own ∙ sym (ap (λ (v : PassesValue). v.number) c.me.view_is)),
      λ items views h at. tt,
    )

pub invariant_of-me : goal.invariant_of-me
invariant_of-me g c =
    let p = c.index_mut-pass.result.now in
    let at = c.index_mut-pass.ensures.value in
    let is = (c.me.invariant.sources c.args.to.cpu p c.requires.within at).puts in
    let empty = (c.me.invariant.sources c.args.to.cpu p c.requires.within at).empty in
    held_put c.me.inside.number c.me.inside.to.items c.me.inside.own c.me.invariant c.args.to.cpu p c.push_as.new.pass c.requires.within at
    c.push_as.ensures.queue.0 (c.push_as.ensures.queue.2 ∙ empty)
    (still_puts g.N.Noting.note c.push_as.result c.me.inside.number (view p) (view c.push_as.new.pass) c.args.to.item _ _ is c.push_as.ensures.rule)

pub returns-clause-put : goal.returns-clause-put
returns-clause-put g c ok =
    let p = c.index_mut-pass.result.now in
    let q = c.push_as.new.pass in
    let at = c.index_mut-pass.ensures.value in
    let to = c.me.inside.to.items in
    let is = (c.me.invariant.sources c.args.to.cpu p c.requires.within at).puts in
    let told = match_ok c.push_as.result _ _ (sym c.is_ok.ensures.value ∙ ok) c.push_as.ensures.rule in
    let note = g.N.Noting.note in
    let still = still_puts note c.push_as.result c.me.inside.number (view p) (view q) c.args.to.item _ _ is c.push_as.ensures.rule in (
      has_put c.me.inside.number to c.me.inside.own c.me.invariant note c.args.to.cpu p q c.args.to.item c.requires.within at c.push_as.ensures.queue.0 told.0
          ∙ ap (puts c.args.to.cpu c.args.to.item g.N.Noting.note) c.me.view_is,
      put_shown c.me.inside.number to c.me.inside.own c.me.invariant c.args.to.cpu p q c.args.to.item c.requires.within at still told.1,
    )

pub returns-clause-full : goal.returns-clause-full
returns-clause-full g c full =
    let p = c.index_mut-pass.result.now in
    let q = c.push_as.new.pass in
    let at = c.index_mut-pass.ensures.value in
    let told = match_err c.push_as.result _ _ _ _ (sym c.is_ok.ensures.value ∙ full) c.push_as.ensures.rule in
    has_not c.me.inside.number c.me.inside.to.items c.me.inside.own c.me.invariant c.args.to.cpu p q at c.push_as.ensures.queue.0 told ∙ c.me.view_is
