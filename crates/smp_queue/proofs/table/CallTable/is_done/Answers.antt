use Rattle.std.proofs.Common.{sym, ap, ◌∙◌}
use Rattle.smp_call_steps.proofs.Machine.Starts.{record_below}
use Rattle.smp_queue.proofs.Posts.Own.{at_own}
use Rattle.smp_queue.proofs.table.CallTable.is_done.Goals as goal

pub is_locked-locked-requires-clause-at : goal.is_locked-locked-requires-clause-at
is_locked-locked-requires-clause-at g c =
    at_own _ c.me.inside.seat c.me.inside.number c.args.k c.record_of-id.result c.me.inside.queued c.me.inside.ran c.me.invariant
    (ap (λ d. d.table) c.me.view_is ∙ (c.requires ∙ (sym (ap (λ t. t.table) c.self.view_is) ∙ sym c.words.ensures.table)))
    (ap (λ t. t.words) c.words.ensures.table ∙ c.self.invariant.sized)
    (record_below c.self.inside.nr c.args.k (sym c.has_record.ensures ∙ c.if-not-has_record.false)) c.record_of-id.ensures
