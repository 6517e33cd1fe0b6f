-- The label law.
use Rattle.std.specs.Prelude.{◌≡◌, ℕ, ◌<◌, Option, Some, None}
use Rattle.smp_labels.specs.declared.entries.Entry.{Entry}
use Rattle.smp_labels.specs.declared.words.TheConstants.{MOST_KEYS, MOST_SITES}
use Rattle.smp_labels.specs.Keys.{is_on, IsKeyWord}
use Rattle.smp_labels.specs.Kinds.{kind_of, kind_word}
use Rattle.smp_labels.specs.Entries.{entry_at, IsEntryWord}

-- label words by their numbers
pub record Table : Type 0 where
  pub key : ℕ → ℕ
  pub entry : ℕ → ℕ
  pub site : ℕ → ℕ

-- the word of a site with this entry: 0 where there is none
abbrev pub site_word : (ℕ → ℕ) → Option Entry → ℕ
site_word key None = 0
site_word key (Some e) = kind_word (kind_of (is_on (key e.key)) e.branch)

-- nothing follows the last entry
abbrev pub IsPacked : (ℕ → ℕ) → Type 0
IsPacked entry = (i j : ℕ) → i < j → j < MOST_SITES → entry i ≡ 0 → entry j ≡ 0

-- the kind of each site is that of its key's state and its branch
abbrev pub HaveKinds : Table → Type 0
HaveKinds t = (i : ℕ) → i < MOST_SITES → t.site i ≡ site_word t.key (entry_at (t.entry i))

-- the words have their form, and the kind of each site is that of its key's state and its branch
pub record IsLawful (t : Table) : Type 0 where
  pub keys : (k : ℕ) → k < MOST_KEYS → IsKeyWord (t.key k)
  pub entries : (i : ℕ) → i < MOST_SITES → IsEntryWord (t.entry i)
  pub packed : IsPacked t.entry
  pub sites : HaveKinds t
