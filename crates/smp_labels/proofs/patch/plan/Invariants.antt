use Rattle.std.proofs.Common.{◌≡◌, ◌+◌, ◌≤◌, ◌∷◌, ◌++◌, length, drop}
use Rattle.smp_labels.specs.declared.patch.Place.TheVariants.{Key}
use Rattle.smp_labels.specs.Keys.{is_on}
use Rattle.smp_labels.specs.Plans.{site_changes}
use Rattle.smp_labels.proofs.patch.plan.Given as goal

abbrev pub invariant-loop-site : goal.invariant-loop-site
invariant-loop-site l = record {
  room : length l.plan.items ≤ l.site + 1;
  left : l.plan.items ++ site_changes l.key (is_on l.new) l.site (drop l.site l.words.entries)
      ≡ (Key l.key, l.new) ∷ site_changes l.key (is_on l.new) 0 l.words.entries;
}
