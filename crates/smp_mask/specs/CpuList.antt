-- CPU lists: items joined by commas, each a CPU or a run of CPUs, in decimal. All is over the width, the number of CPUs that there can be.
use Rattle.std.specs.Prelude.{◌≡◌, ℕ, ◌<◌, ◌≤◌, Bool, nat_le, ◌&&◌, List, [], ◌∷◌, ◌++◌, length, map, take}
use Rattle.std.specs.Fmt.{decimal}
use Rattle.std.specs.List.{join_with_byte, list_any}
use Rattle.smp_mask.specs.Mask.{has}
use Rattle.smp_mask.specs.declared.item.Item.{Item}
use Rattle.smp_mask.specs.declared.item.Item.TheVariants.{One, Run}

-- the text of an item, one CPU or a run from a low one to a high one: decimal numbers, with a hyphen between a run's two
abbrev pub item_text : Item → List ℕ
item_text (One cpu) = decimal cpu
item_text (Run low high) = decimal low ++ (45 ∷ decimal high)

-- its lowest CPU
abbrev pub lowest : Item → ℕ
lowest (One cpu) = cpu
lowest (Run low high) = low

-- its highest CPU
abbrev pub highest : Item → ℕ
highest (One cpu) = cpu
highest (Run low high) = high

-- the CPUs of an item are below the width, and a run goes up
abbrev pub IsItem : ℕ → Item → Type 0
IsItem width i = (lowest i ≤ highest i) × (highest i < width)

-- the same of each
abbrev pub AreItems : ℕ → List Item → Type 0
AreItems width [] = Unit {0}
AreItems width (i ∷ is) = IsItem width i × AreItems width is

-- the items joined by commas
abbrev pub joined : List Item → List ℕ
joined items = join_with_byte 44 (map item_text items)

-- whether an item has the CPU
abbrev pub is_within : ℕ → Item → Bool
is_within cpu i = nat_le (lowest i) cpu && nat_le cpu (highest i)

-- whether one of the items does
abbrev pub names : List Item → ℕ → Bool
names items cpu = list_any (is_within cpu) items

-- the text is that of these items: the accepted texts are those that have some
pub record IsListOf (width : ℕ) (text : List ℕ) (items : List Item) : Type 0 where
  pub items_are : AreItems width items
  pub text_is : text ≡ joined items

-- the text is accepted, and the mask is the set of its items
pub record IsMaskOf (width : ℕ) (text : List ℕ) (mask : ℕ) : Type 0 where
  pub items : List Item
  pub is_list : IsListOf width text items
  pub members : (others : List Item) → IsListOf width text others → (cpu : ℕ) → has mask cpu ≡ names others cpu

-- some accepted text begins so
pub record IsFront (width : ℕ) (text : List ℕ) : Type 0 where
  pub more : List ℕ
  pub items : List Item
  pub is_list : IsListOf width (text ++ more) items

-- the text is not accepted, and its first p bytes are the longest front that some accepted text has
pub record IsRefusedAt (width : ℕ) (text : List ℕ) (p : ℕ) : Type 0 where
  pub unlisted : (items : List Item) → IsListOf width text items → ⊥
  pub within : p ≤ length text
  pub front : IsFront width (take p text)
  pub longest : (q : ℕ) → p < q → q ≤ length text → IsFront width (take q text) → ⊥
