use Rattle.std.proofs.Common.{◌≡◌, ℕ, ◌+◌, Option, Some, None, length, refl, ap, arith, subst, ◌∙◌}
use Rattle.smp_words.specs.declared.phase.TheConstants.{EXIT}
use Rattle.std.specs.Option.{unwrap_or}
use Rattle.std.proofs.lemmas.List.{length-map}
use Rattle.smp_labels.specs.Entries.{entry_word}
use Rattle.smp_labels.specs.Keys.{count_after, count_left, count_or}
use Rattle.smp_labels.specs.declared.keys.Change.{Change}
use Rattle.smp_stop_steps.specs.Threads.Known.{setup_in, stepped}
use Rattle.smp_multi.specs.Lives.{StopMoment}
use Rattle.smp_stop_steps.specs.Labels.{answer_for, count_set, patch_answer}
use Rattle.smp_stop_steps.specs.Tells.{plan_at}
use Rattle.smp_stop_steps.specs.declared.stage.Visit.{Visit}
use Rattle.smp_multi.specs.Names.{Key, KnownStops, StopRole}
use Rattle.smp_multi.specs.Patches.{begins_with, entries_in, rest_in}
use Rattle.smp_multi.specs.Places.{work_in}
use Rattle.smp_multi.specs.StepCounts.{loading, patching}
use Rattle.smp_multi.proofs.Counting.{begun_on, steps_on, then_steps}
use Rattle.smp_multi.proofs.Patching.{patch_ends, is_at_run}
use Rattle.smp_multi.proofs.patch.patch_on.Goals as goal

unwrap_is : (o : Option ℕ) (n : ℕ) → unwrap_or o n ≡ count_or n o
unwrap_is None n = refl
unwrap_is (Some m) n = refl

pub returns-clause-patched : goal.returns-clause-patched
returns-clause-patched c =
    let k = c.args.seat.now.known in
    let w = work_in k.seat in
    let count = c.begin_patch-count.result in
    let begun = begins_with count k.seat k in
    let at = is_at_run _ _ c.args.visit c.requires in
    let first : c.begin_patch-count.new.seat.known ≡ stepped 3 begun = c.begin_patch-count.ensures.known
    ∙ (ap (λ (x : KnownStops). stepped 1 (begins_with count x.seat x)) c.load_change-key.ensures.known
    ∙ (ap (stepped 1) (begun_on 2 count k.seat k) ∙ steps_on 2 1 begun)) in
    let loads = loading count c.unwrap_or.result (length (entries_in c.begin_patch-count.new.seat.known)) in
    let one : c.load_plan-plan.new.seat.known ≡ stepped (3 + loads) begun = then_steps 3 loads _ _ _ first c.load_plan-plan.ensures.known in
    let same : c.unwrap_or.result ≡ count_set w count = c.unwrap_or.ensures ∙ (unwrap_is c.count_after-next.result count
    ∙ (ap (count_or count) c.count_after-next.ensures
    ∙ ap (λ (x : Change). count_left x count) c.load_change-key.ensures.change)) in
    let entries : length (entries_in c.begin_patch-count.new.seat.known) ≡ length k.setting.labels.entries =
    ap (λ (x : KnownStops). length (entries_in x)) (first ∙ ap (λ (y : StopRole). stepped 3 (begins_with count y k)) at)
    ∙ length-map k.setting.labels.entries entry_word in
    let loaded : loads ≡ loading count (count_set w count) (length k.setting.labels.entries) = (λ i. loading count (same i) (entries i)) in
    let stored : length (rest_in c.load_plan-plan.new.seat.known.seat) ≡ length (plan_at (setup_in k.setting) w count) =
    ap (λ (x : KnownStops). length (rest_in x.seat)) (one ∙ ap (λ (y : StopRole). stepped (3 + loads) (begins_with count y k)) at) in
    let all = 4 + patching k.setting w count in
    let sum : (3 + loads) + length (rest_in c.load_plan-plan.new.seat.known.seat) + 1 ≡ all = omega (arith, loaded, stored) in
    let two = c.requires.disabled in
    let acked : c.acknowledged-visit.result.acked ≡ c.args.visit.acked + 1 = ap (λ (v : Visit). v.acked) c.acknowledged-visit.ensures in
    let next : c.acknowledged-visit.result.acked + 1 ≡ EXIT = omega arith in
    let answer : c.answer_for.result ≡ patch_answer w count =
    c.answer_for.ensures ∙ ap answer_for (c.count_after-next.ensures ∙ ap (λ (x : Change). count_after x count) c.load_change-key.ensures.change) in (
      count,
      subst (λ n. StopMoment (stepped 2 k) (Key n) count) c.load_change-key.ensures.key
          (subst (λ (x : KnownStops). StopMoment x (Key c.load_change-key.result.0) count) c.load_change-key.ensures.known c.begin_patch-count.ensures.then),
      patch_ends k c.args.visit.slot w count at _ _ _ _ c.acknowledge_patch-found.result c.answer_for.result _ _ _ all one
          c.store_plan.ensures.known answer c.acknowledge_patch-found.ensures.known c.pass.ensures.known next sum,
      c.acknowledged-visit.ensures,
    )
