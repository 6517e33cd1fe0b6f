-- The canonical CPU list of a mask: its runs of members, ascending, each as long as can be.
use Rattle.std.specs.Prelude.{◌≡◌, ℕ, ◌+◌, ◌<◌, ◌==◌, List, [], ◌∷◌, if◌then◌else◌}
use Rattle.smp_mask.specs.Mask.{has, members}
use Rattle.smp_mask.specs.CpuList.{lowest, highest, AreItems, joined, names}
use Rattle.smp_mask.specs.declared.item.Item.{Item}
use Rattle.smp_mask.specs.declared.item.Item.TheVariants.{One, Run}

-- a CPU before the items of those above it: it makes a run with an item that begins next to it
abbrev pub put_before : ℕ → List Item → List Item
put_before cpu [] = One cpu ∷ []
put_before cpu (One low ∷ is) = if low == cpu + 1 then Run cpu low ∷ is else One cpu ∷ One low ∷ is
put_before cpu (Run low high ∷ is) = if low == cpu + 1 then Run cpu high ∷ is else One cpu ∷ Run low high ∷ is

-- the items of ascending CPUs
abbrev pub items_of : List ℕ → List Item
items_of [] = []
items_of (cpu ∷ cpus) = put_before cpu (items_of cpus)

-- the items of a mask
abbrev pub mask_items : ℕ → List Item
mask_items mask = items_of (members mask)

-- the item from one CPU to another
abbrev pub item_between : ℕ → ℕ → Item
item_between low high = if low == high then One low else Run low high

-- what Display prints
abbrev pub list_text : ℕ → List ℕ
list_text mask = joined (mask_items mask)

-- a run has two CPUs or more
abbrev pub IsProper : Item → Type 0
IsProper (One cpu) = Unit {0}
IsProper (Run low high) = low < high

-- the items ascend, and between two of them a CPU is left out
abbrev pub AreApart : List Item → Type 0
AreApart [] = Unit {0}
AreApart (i ∷ []) = IsProper i
AreApart (i ∷ j ∷ is) = IsProper i × (highest i + 1 < lowest j) × AreApart (j ∷ is)

-- the items are the canonical ones of that set
pub record AreCanonical (width mask : ℕ) (items : List Item) : Type 0 where
  pub items_are : AreItems width items
  pub apart : AreApart items
  pub members : (cpu : ℕ) → has mask cpu ≡ names items cpu
