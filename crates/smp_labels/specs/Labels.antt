-- The keys and the sites that a machine is made with.
use Rattle.std.specs.Prelude.{ℕ, ◌<◌, ◌≤◌, false, List, length, All}
use Rattle.smp_labels.specs.declared.entries.Entry.{Entry}
use Rattle.smp_labels.specs.declared.words.TheConstants.{MOST_KEYS, MOST_SITES}
use Rattle.smp_labels.specs.Kinds.{kind_of, kind_word}

-- how many keys there are, and the entry of each site
pub record Labels : Type 0 where
  pub keys : ℕ
  pub entries : List Entry

-- they fit a table, and each entry's key is one of the keys
pub record AreLabels (keys : ℕ) (entries : List Entry) : Type 0 where
  pub few_keys : keys ≤ MOST_KEYS
  pub few_sites : length entries ≤ MOST_SITES
  pub known : All (λ e. e.key < keys) entries

-- the word of a site with this entry while all keys are off
abbrev pub first_site : Entry → ℕ
first_site e = kind_word (kind_of false e.branch)
