use Rattle.std.proofs.Common.{◌≡◌, ℕ, [], ◌∷◌, ◌++◌, List, Option, Some, sym, ◌∙◌, ap, subst, slice_index, refl, ne_eqb, eq-eqb, arith}
use Rattle.std.proofs.lemmas.List.{drop_all, append-nil}
use Rattle.smp_labels.specs.declared.keys.Change.{Change}
use Rattle.smp_labels.specs.declared.patch.Place.{Place}
use Rattle.smp_labels.specs.declared.patch.Place.TheVariants.{Key}
use Rattle.smp_labels.specs.declared.words.LabelWords.{LabelWords}
use Rattle.smp_labels.specs.Keys.{IsKeyWord, count_or, count_after, count_left}
use Rattle.smp_labels.specs.Law.{IsLawful}
use Rattle.smp_labels.specs.Words.{table_of}
use Rattle.smp_labels.specs.Plans.{applied, plan_of, AreEntriesOf, SetsKey, StandsPartWay}
use Rattle.smp_labels.proofs.Patched.{plan_same, plan_counts, plan_patches, plan_leads, plan_part_way, left_in_form}
use Rattle.smp_labels.proofs.patch.plan.Goals as goal
use Rattle.smp_labels.proofs.patch.plan.Goals.{After-loop-site}

-- the count that a change gives is the one that it leaves
left_is : (change : Change) (old new : ℕ) (found : Option ℕ) → found ≡ count_after change old → found ≡ Some new → new ≡ count_left change old
left_is change old new found e is = sym (ap (count_or old) (sym e ∙ is))

-- what a plan promises
module _ (words : LabelWords) (key : ℕ) (change : Change) (lawful : IsLawful (table_of words)) (key_fits : IsKeyWord (slice_index words.keys key))
    (few : AreEntriesOf words.entries (table_of words))
    (items : List (Place × ℕ)) (is : items ≡ plan_of key (slice_index words.keys key) (count_left change (slice_index words.keys key)) words.entries) where
  leads : SetsKey key (count_left change (slice_index words.keys key)) (table_of words) (applied items (table_of words))
  leads = subst (λ l. SetsKey key (count_left change (slice_index words.keys key)) (table_of words) (applied l (table_of words))) (sym is)
      (plan_leads key (count_left change (slice_index words.keys key)) words.entries (table_of words)
      (left_in_form change (slice_index words.keys key) key_fits) lawful few)

  part_way : (front rest : List (Place × ℕ)) → items ≡ front ++ rest
      → StandsPartWay key (count_left change (slice_index words.keys key)) front rest (table_of words)
  part_way front rest parts =
      plan_part_way key (count_left change (slice_index words.keys key)) words.entries (table_of words)
      (left_in_form change (slice_index words.keys key) key_fits) lawful few front rest (sym is ∙ parts)

-- the words changed in the loop are the plan
changes : (c : After-loop-site) → c.loop-site.plan.items ≡ plan_of c.args.key (slice_index c.args.words.now.keys c.args.key)
    (count_left c.args.change (slice_index c.args.words.now.keys c.args.key)) c.args.words.now.entries
changes c =
    let words = c.args.words.now in
    let old = slice_index words.keys c.args.key in
    let new = c.in-Some.new in
    let left = left_is c.args.change old new c.count_after.result c.count_after.ensures c.in-Some.is in
    let done = rw (drop_all c.loop-site.site words.entries (omega arith)) at c.loop-site.invariant.left in
    subst (λ n. c.loop-site.plan.items ≡ plan_of c.args.key old n words.entries) left
    (sym (append-nil c.loop-site.plan.items) ∙ (done ∙ sym (plan_patches c.args.key old new words.entries (ne_eqb old new c.if-old-new.false)
    (rw (c.is_on.ensures, c.is_on-2.ensures) at c.if-is_on.false))))

pub returns-then-old-new-clause-part_way : goal.returns-then-old-new-clause-part_way
returns-then-old-new-clause-part_way c =
    let words = c.args.words.now in
    let old = slice_index words.keys c.args.key in
    let left = left_is c.args.change old c.in-Some.new c.count_after.result c.count_after.ensures c.in-Some.is in
    part_way words c.args.key c.args.change c.requires (c.requires.keys c.args.key (omega arith)) record
    { few = omega arith; read = λ i _. refl } c.new-plan.result.items
    (subst (λ n. c.new-plan.result.items ≡ plan_of c.args.key old n words.entries) left
    (c.new-plan.ensures ∙ sym (plan_same c.args.key old c.in-Some.new words.entries (eq-eqb old c.in-Some.new c.if-old-new.true))))

pub returns-then-is_on-clause-part_way : goal.returns-then-is_on-clause-part_way
returns-then-is_on-clause-part_way c =
    let words = c.args.words.now in
    let old = slice_index words.keys c.args.key in
    let left = left_is c.args.change old c.in-Some.new c.count_after.result c.count_after.ensures c.in-Some.is in
    part_way words c.args.key c.args.change c.requires (c.requires.keys c.args.key (omega arith)) record
    { few = omega arith; read = λ i _. refl } c.push.new.self.items
    (subst (λ n. c.push.new.self.items ≡ plan_of c.args.key old n words.entries) left
    (c.push.ensures.items ∙ (ap (λ l. l ++ (Key c.args.key, c.in-Some.new) ∷ []) c.new-plan.ensures
    ∙ sym (plan_counts c.args.key old c.in-Some.new words.entries (ne_eqb old c.in-Some.new c.if-old-new.false)
    (rw (c.is_on.ensures, c.is_on-2.ensures) at c.if-is_on.true)))))

pub returns-clause-leads : goal.returns-clause-leads
returns-clause-leads c =
    leads c.args.words.now c.args.key c.args.change c.requires (c.requires.keys c.args.key (omega arith)) record
    { few = omega arith; read = λ i _. refl } c.loop-site.plan.items (changes c)

pub returns-clause-part_way : goal.returns-clause-part_way
returns-clause-part_way c =
    part_way c.args.words.now c.args.key c.args.change c.requires (c.requires.keys c.args.key (omega arith)) record
    { few = omega arith; read = λ i _. refl } c.loop-site.plan.items (changes c)
