use Rattle.std.proofs.Common.{◌≡◌, ◌+◌, ◌≤◌, ◌++◌, ◌∷◌, [], length, length-append, true, false, rules, Some, slice_index, ap, sym, subst, ◌∙◌, arith}
use Rattle.std.proofs.Common.{eq-eqb, ne_eqb}
use Rattle.smp_labels.specs.Entries.{entry_at}
use Rattle.smp_labels.specs.Keys.{is_on}
use Rattle.smp_labels.specs.Kinds.{kind_of, kind_word}
use Rattle.smp_labels.specs.Plans.{site_changes}
use Rattle.smp_labels.specs.declared.patch.Place.TheVariants as place
use Rattle.smp_stop_steps.specs.Threads.Known.{stepped}
use Rattle.smp_multi.specs.Names.{KnownStops}
use Rattle.smp_multi.specs.Patches.{entries_in}
use Rattle.smp_multi.specs.StepCounts.{finding, loading}
use Rattle.smp_multi.proofs.Counting.{then_steps}
use Rattle.smp_multi.proofs.Planning.{entries_end, entries_until, entry_within, finds_end, left_more, left_none, loads_all, PlanLeft}
use Rattle.smp_multi.proofs.patch.load_plan.Goals.{then-entry-key, else-entry-key}
use Rattle.smp_multi.proofs.patch.load_plan.Goals as goal

pub loop-site-preserved : goal.loop-site-preserved
loop-site-preserved c =
    let inv = c.loop-site.invariant in
    let es = entries_in c.args.seat.now.known in
    let on = is_on c.args.next in
    let e = c.in-Some.entry in
    let old = c.loop-site.plan.items in
    let whole = (place.Key c.args.key, c.args.next) ∷ site_changes c.args.key on 0 es in
    let is : entry_at (slice_index es c.loop-site.site) ≡ Some e =
    sym (ap entry_at (c.load_entry-word.ensures.word ∙ ap (λ (k : KnownStops). slice_index (entries_in k) c.loop-site.site) inv.known))
    ∙ (sym c.from_word.ensures.value ∙ c.in-Some.is) in
    let within : c.loop-site.site + 1 ≤ length es = (let low = entry_within es c.loop-site.site e is in omega arith) in
    let more = left_more c.args.key on c.loop-site.site es old whole e is inv.left in
    elim c.if-entry-key.branch [
      | then-entry-key w ↦
          let one : c.if-entry-key.plan.items ≡ old ++ (place.Site c.loop-site.site, kind_word (kind_of on e.branch)) ∷ [] =
          ap (λ p. p.items) w.plan-is ∙ (w.push-then-entry-key.ensures.items ∙ ap (λ n. old ++ (place.Site c.loop-site.site, n) ∷ [])
          (w.word.ensures ∙ ap kind_word (w.kind_of-kind.ensures ∙ ap (λ b. kind_of b e.branch) w.is_on-then-entry-key.ensures))) in
          record {
            table = c.load_entry-word.ensures.table;
            lives = c.load_entry-word.ensures.lives;
            known = then_steps c.loop-site.site 1 _ _ _ inv.known c.load_entry-word.ensures.known;
            few = within;
            room = (let r = inv.room in let n = length-append old ((place.Site c.loop-site.site, kind_word (kind_of on e.branch)) ∷ []) in
                let l = ap length one in
                omega arith);
            left = subst (PlanLeft c.args.key on (c.loop-site.site + 1) es whole) (sym one) (more true (eq-eqb e.key c.args.key w.if-entry-key.true));
          }
      | else-entry-key w ↦
          let one : c.if-entry-key.plan.items ≡ old = ap (λ p. p.items) w.plan-is in
          record {
            table = c.load_entry-word.ensures.table;
            lives = c.load_entry-word.ensures.lives;
            known = then_steps c.loop-site.site 1 _ _ _ inv.known c.load_entry-word.ensures.known;
            few = within;
            room = (let r = inv.room in let l = ap length one in omega arith);
            left = subst (PlanLeft c.args.key on (c.loop-site.site + 1) es whole) (sym one) (more false (ne_eqb e.key c.args.key w.if-entry-key.false));
          }
    ]

-- no entry is left where one is none
pub returns-in_default-clause-plan : goal.returns-in_default-clause-plan
returns-in_default-clause-plan c =
    let inv = c.loop-site.invariant in
    let word = c.load_entry-word.ensures.word in
    let form = c.load_entry-word.ensures.form in
    search (rules, left_none, entries_end, inv.left, inv.known, word, form, arith)

-- the load that finds none comes behind those of all entries
pub returns-in_default-clause-known : goal.returns-in_default-clause-known
returns-in_default-clause-known c =
    let inv = c.loop-site.invariant in
    let word = c.load_entry-word.ensures.word in
    let form = c.load_entry-word.ensures.form in
    let site = c.loop-site.site in
    let k = c.args.seat.now.known in
    let n = length (entries_in k) in
    let ended : n ≤ site = search (rules, entries_until, inv.known, word, form, arith) in
    let all : loading c.args.count c.args.next n ≡ finding n = search (rules, loads_all, arith) in
    then_steps site 1 _ _ _ inv.known c.load_entry-word.ensures.known
    ∙ ap (λ m. stepped m k) (finds_end n site inv.few ended c.loop-site-test.true ∙ sym all)
