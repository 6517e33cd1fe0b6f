-- A plan has the key's word first, and then its sites, ascending.
use Rattle.std.proofs.Common.{ℕ, ◌+◌, ◌≤◌, ◌==◌, Bool, true, false, cond, Option, None, Some, List, [], ◌∷◌, ◌++◌, refl, arith}
use Rattle.smp_labels.specs.declared.entries.Entry.{Entry}
use Rattle.smp_labels.specs.declared.patch.Place.{Place}
use Rattle.smp_labels.specs.declared.patch.Place.TheVariants.{Key, Site}
use Rattle.smp_labels.specs.Keys.{is_on}
use Rattle.smp_labels.specs.Kinds.{xor, kind_of, kind_word}
use Rattle.smp_labels.specs.Entries.{entry_at}
use Rattle.smp_labels.specs.PlanOrder.{AreSitesFrom, IsInOrder}
use Rattle.smp_labels.specs.Plans.{patch_of, plan_of, site_change, site_changes}

-- sites from j on are sites from a lower number on
from_lower : (i j : ℕ) (changes : List (Place × ℕ)) → i ≤ j → AreSitesFrom j changes → AreSitesFrom i changes
from_lower i j [] low h = tt
from_lower i j ((Key k, word) ∷ rest) low h = h
from_lower i j ((Site k, word) ∷ rest) low h = (omega (arith, h.0), h.1)

one_more : (key : ℕ) (on : Bool) (i : ℕ) (e : Option Entry) (rest : List (Place × ℕ)) → AreSitesFrom (i + 1) rest
    → AreSitesFrom i (site_change key on i e ++ rest)
one_more key on i None rest h = from_lower i (i + 1) rest (omega arith) h
one_more key on i (Some e) rest h =
    elim (e.key == key) as (λ b. AreSitesFrom i (cond b ((Site i, kind_word (kind_of on e.branch)) ∷ []) [] ++ rest)) [
      | true ↦ (omega arith, h)
      | false ↦ from_lower i (i + 1) rest (omega arith) h
    ]

sites_ascend : (key : ℕ) (on : Bool) (i : ℕ) (entries : List ℕ) → AreSitesFrom i (site_changes key on i entries)
sites_ascend key on i [] = tt
sites_ascend key on i (word ∷ rest) = one_more key on i (entry_at word) (site_changes key on (i + 1) rest) (sites_ascend key on (i + 1) rest)

turned : (key old new : ℕ) (entries : List ℕ)
    → IsInOrder key new (cond (xor (is_on old) (is_on new)) (patch_of key new entries) ((Key key, new) ∷ []))
turned key old new entries =
    elim (xor (is_on old) (is_on new)) as (λ b. IsInOrder key new (cond b (patch_of key new entries) ((Key key, new) ∷ []))) [
      | true ↦ (refl, sites_ascend key (is_on new) 0 entries)
      | false ↦ (refl, tt)
    ]

pub in_order : (key old new : ℕ) (entries : List ℕ) → IsInOrder key new (plan_of key old new entries)
in_order key old new entries =
    elim (old == new) as (λ b. IsInOrder key new (cond b [] (cond (xor (is_on old) (is_on new)) (patch_of key new entries) ((Key key, new) ∷ [])))) [
      | true ↦ tt
      | false ↦ turned key old new entries
    ]
