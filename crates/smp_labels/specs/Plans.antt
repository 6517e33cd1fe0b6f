-- The plan of a patch, and what it makes of a table.
use Rattle.std.specs.Prelude.{◌≡◌, ◌≢◌, ℕ, ◌+◌, ◌<◌, ◌≤◌, ◌==◌, Bool, false, if◌then◌else◌, Option, Some, None, List, [], ◌∷◌, ◌++◌, length, slice_index, All}
use Rattle.smp_words.specs.Put.{put}
use Rattle.smp_labels.specs.declared.entries.Entry.{Entry}
use Rattle.smp_labels.specs.declared.patch.Place.{Place}
use Rattle.smp_labels.specs.declared.patch.Place.TheVariants.{Key, Site}
use Rattle.smp_labels.specs.declared.words.TheConstants.{MOST_SITES}
use Rattle.smp_labels.specs.Keys.{is_on}
use Rattle.smp_labels.specs.Kinds.{xor, kind_of, kind_word}
use Rattle.smp_labels.specs.Entries.{entry_at}
use Rattle.smp_labels.specs.Law.{Table, IsLawful}

-- the table after one store
abbrev pub stored : Place → ℕ → Table → Table
stored (Key k) word t = record t { key = put t.key k word }
stored (Site i) word t = record t { site = put t.site i word }

-- the table after these stores, the first of them first
abbrev pub applied : List (Place × ℕ) → Table → Table
applied [] t = t
applied (change ∷ rest) t = applied rest (stored change.0 change.1 t)

-- the word at a place
abbrev pub word_at : Table → Place → ℕ
word_at t (Key k) = t.key k
word_at t (Site i) = t.site i

-- the site with this entry is of the key
abbrev pub is_of : ℕ → Option Entry → Bool
is_of key None = false
is_of key (Some e) = e.key == key

-- the change of site i, which has this entry: none where it is of another key
abbrev pub site_change : ℕ → Bool → ℕ → Option Entry → List (Place × ℕ)
site_change key on i None = []
site_change key on i (Some e) = if e.key == key then (Site i, kind_word (kind_of on e.branch)) ∷ [] else []

-- the changes of the sites of a key that is now on or off, ascending: these are their entry words, from site i on
abbrev pub site_changes : ℕ → Bool → ℕ → List ℕ → List (Place × ℕ)
site_changes key on i [] = []
site_changes key on i (word ∷ rest) = site_change key on i (entry_at word) ++ site_changes key on (i + 1) rest

-- the changes that give a key this word, where that turns it on or off
abbrev pub patch_of : ℕ → ℕ → List ℕ → List (Place × ℕ)
patch_of key word entries = (Key key, word) ∷ site_changes key (is_on word) 0 entries

-- the changes that take a key from the old count to the new one: none where the count stays, its word alone where it
-- stays on
abbrev pub plan_of : ℕ → ℕ → ℕ → List ℕ → List (Place × ℕ)
plan_of key old new entries =
    if old == new then [] else if xor (is_on old) (is_on new) then patch_of key new entries else (Key key, new) ∷ []

-- these entry words are the table's: those of its first sites, where no other site is in use
pub record AreEntriesOf (entries : List ℕ) (t : Table) : Type 0 where
  pub few : length entries ≤ MOST_SITES
  pub read : (i : ℕ) → i < MOST_SITES → t.entry i ≡ slice_index entries i

-- the new table is the lawful one with this key at this count: all other keys, all entries and the sites of other keys are as before
pub record SetsKey (key count : ℕ) (old new : Table) : Type 0 where
  pub lawful : IsLawful new
  pub set : new.key key ≡ count
  pub keys : (k : ℕ) → k ≢ key → new.key k ≡ old.key k
  pub entries : (i : ℕ) → new.entry i ≡ old.entry i
  pub sites : (i : ℕ) → is_of key (entry_at (old.entry i)) ≡ false → new.site i ≡ old.site i

-- where some stores of a plan are made, just these have changed the table, and the rest leads to the lawful one
pub record StandsPartWay (key count : ℕ) (front rest : List (Place × ℕ)) (t : Table) : Type 0 where
  pub made : All (λ change. word_at (applied front t) change.0 ≡ change.1) front
  pub kept : (p : Place) → All (λ change. change.0 ≢ p) front → word_at (applied front t) p ≡ word_at t p
  pub entries : (i : ℕ) → (applied front t).entry i ≡ t.entry i
  pub leads : SetsKey key count t (applied rest (applied front t))
