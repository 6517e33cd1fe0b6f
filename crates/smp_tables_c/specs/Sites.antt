-- The keys and the sites that C passes.
use Rattle.std.specs.Prelude.{ℕ, ◌==◌, not, List, map}
use Rattle.smp_labels.specs.Labels.{Labels}
use Rattle.smp_labels.specs.declared.entries.Entry.{Entry}
use Rattle.smp_tables_c.specs.declared.record.SmpSite.{SmpSite}

-- the entry of a site: it jumps while its key is off where its branch is not 0
abbrev pub entry_of : SmpSite → Entry
entry_of s = record { key = s.key; branch = not (s.branch == 0) }

-- just these keys and sites
abbrev pub labels_of : ℕ → List SmpSite → Labels
labels_of keys sites = record { keys = keys; entries = map entry_of sites }
