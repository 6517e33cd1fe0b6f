use Rattle.std.proofs.Common.{◌≡◌, map, take}
use Rattle.smp_tables_c.specs.Sites.{entry_of}
use Rattle.smp_tables_c.proofs.labels.labels_of.Given as goal

abbrev pub invariant-loop-site : goal.invariant-loop-site
invariant-loop-site l = l.entries.items ≡ map entry_of (take l.site-index l.sites)
