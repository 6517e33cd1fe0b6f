use Rattle.std.proofs.Common.{◌≡◌, Some, ap, sym, subst, ◌∙◌, cond}
use Rattle.smp_labels.specs.Keys.{is_on, count_after}
use Rattle.smp_labels.specs.declared.keys.Change.{Change}
use Rattle.smp_multi.specs.Lives.{StopMoment}
use Rattle.smp_stop_steps.specs.Threads.Known.{stepped}
use Rattle.smp_stop_steps.specs.Threads.KnownAfter.{counted}
use Rattle.smp_stop_steps.specs.Stages.{nudge_of}
use Rattle.smp_multi.specs.Names.{Key, KnownStops}
use Rattle.smp_multi.specs.Nudges.{lost_known}
use Rattle.smp_multi.proofs.Nudging.{found_other, stays_on, same_tests}
use Rattle.smp_multi.proofs.nudge.try_key.Goals as goal

pub returns-else-exchange_count-clause-known : goal.returns-else-exchange_count-clause-known
returns-else-exchange_count-clause-known c =
    let count = c.load_count-count.result in
    let next = c.in-Some.next in
    let loaded = c.load_count-count.ensures.known in
    let found = c.exchange_count.ensures.then in
    let lost = c.if-exchange_count.false in
    let v = c.load_count-count.new.seat.known in
    let after : count_after (nudge_of c.args.up) count ≡ Some next =
    ap (λ (x : Change). count_after x count) (sym c.change_of-change.ensures) ∙ (sym c.count_after.ensures ∙ c.in-Some.is) in
    let same : is_on next ≡ is_on count = sym c.is_on.ensures ∙ (same_tests _ _ c.if-is_on.false ∙ c.is_on-2.ensures) in (
      count,
      found.0,
      c.load_count-count.ensures.then,
      stays_on c.args.up count next after same,
      subst (λ (v : KnownStops). StopMoment v (Key c.args.k) found.0) loaded found.1,
      found_other found.0 count c.exchange_count.result found.2 lost,
      c.exchange_count.ensures.known
          ∙ (ap (λ b. cond b (stepped 1 (record v { part = record (v.part) { nudged = counted v.part.nudged c.args.k count next } }))
          (lost_known c.args.k v)) lost
          ∙ ap (lost_known c.args.k) loaded),
    )
