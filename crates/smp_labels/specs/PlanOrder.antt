-- The order of a plan's stores: the key's word first, and then its sites, ascending.
use Rattle.std.specs.Prelude.{◌≡◌, ℕ, ◌+◌, ◌≤◌, List, [], ◌∷◌}
use Rattle.smp_labels.specs.declared.patch.Place.{Place}
use Rattle.smp_labels.specs.declared.patch.Place.TheVariants.{Key, Site}
use Rattle.smp_labels.specs.Plans.{plan_of}

-- stores to sites alone, whose numbers ascend from i on
abbrev pub AreSitesFrom : ℕ → List (Place × ℕ) → Type 0
AreSitesFrom i [] = Unit {0}
AreSitesFrom i ((Key k, word) ∷ rest) = ⊥
AreSitesFrom i ((Site j, word) ∷ rest) = (i ≤ j) × AreSitesFrom (j + 1) rest

-- no store, or first that of the key's new word and then those of sites
abbrev pub IsInOrder : ℕ → ℕ → List (Place × ℕ) → Type 0
IsInOrder key new [] = Unit {0}
IsInOrder key new (first ∷ rest) = (first ≡ (Key key, new)) × AreSitesFrom 0 rest

abbrev pub PlansAreInOrder : Type 0
PlansAreInOrder = (key old new : ℕ) (entries : List ℕ) → IsInOrder key new (plan_of key old new entries)
