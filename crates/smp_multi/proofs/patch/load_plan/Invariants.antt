use Rattle.std.proofs.Common.{◌≡◌, ◌+◌, ◌≤◌, ◌∷◌, ◌++◌, length, drop}
use Rattle.smp_labels.specs.declared.patch.Place.TheVariants.{Key}
use Rattle.smp_labels.specs.Keys.{is_on}
use Rattle.smp_labels.specs.Plans.{site_changes}
use Rattle.smp_stop_steps.specs.Threads.Known.{stepped}
use Rattle.smp_multi.specs.Lives.{Lives}
use Rattle.smp_multi.specs.Patches.{entries_in}
use Rattle.smp_multi.proofs.patch.load_plan.Given as goal

abbrev pub invariant-loop-site : goal.invariant-loop-site
invariant-loop-site l = record {
  table : l.seat.table ≡ l.fn.words.shared.now.table_id;
  lives : Lives l.seat.known;
  known : l.seat.known ≡ stepped l.site l.fn.seat.known;
  few : l.site ≤ length (entries_in l.fn.seat.known);
  room : length l.plan.items ≤ l.site + 1;
  left : l.plan.items ++ site_changes l.key (is_on l.next) l.site (drop l.site (entries_in l.fn.seat.known))
      ≡ (Key l.key, l.next) ∷ site_changes l.key (is_on l.next) 0 (entries_in l.fn.seat.known);
}
