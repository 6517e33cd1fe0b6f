use Rattle.std.proofs.Common.{rules, sym, ap, ◌∙◌}
use Rattle.smp_call_steps.proofs.Machine.Starts.{online_below}
use Rattle.smp_queue.proofs.Posts.Own.{at_own, allowed_record, may_queue}
use Rattle.smp_queue.proofs.table.CallTable.begin_post.Goals as goal

pub is_locked-requires-clause-at : goal.is_locked-requires-clause-at
is_locked-requires-clause-at g c =
    let a = c.args.asked in
    at_own _ c.me.inside.seat c.me.inside.number a.k c.record_of-id.result c.me.inside.queued c.me.inside.ran c.me.invariant
    (ap (λ d. d.table) c.me.view_is ∙ (c.requires ∙ (sym (ap (λ t. t.table) c.self.view_is) ∙ sym c.words.ensures.table)))
    (ap (λ t. t.words) c.words.ensures.table ∙ c.self.invariant.sized)
    (allowed_record c.self.inside.nr c.self.inside.online c.me.inside.number a.k a.to a.func a.info a.tries a.class
    (sym c.refusal.ensures ∙ c.in_default.is)) c.record_of-id.ensures

pub returns : goal.returns
returns g c =
    let a = c.args.asked in
    let small = allowed_record c.self.inside.nr c.self.inside.online c.me.inside.number a.k a.to a.func a.info a.tries a.class
    (sym c.refusal.ensures ∙ c.in_default.is) in
    let to = online_below c.self.inside.nr c.self.inside.online a.to c.self.invariant.limits (sym c.contains.ensures.member ∙ c.if-not-contains.false) in (
      search rules,
      search rules,
      search rules,
      search rules,
      may_queue c.me.inside.seat c.is_locked.new.seat c.me.inside.number a.k c.record_of-id.result a.to a.func a.info a.class
          c.me.inside.queued c.me.inside.ran c.me.invariant small c.record_of-id.ensures to (search rules) (search rules) (search rules),
    )
