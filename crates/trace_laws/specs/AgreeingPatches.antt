-- The patch of a stop, as the machine and the model of events have it.
use Rattle.std.specs.Prelude.{◌≡◌, ℕ, ◌<◌, ◌≤◌, false, List, [], ◌∷◌, length, get_or, Option, Some, None}
use Rattle.smp_labels.specs.Keys.{count_or}
use Rattle.smp_labels.specs.Plans.{plan_of}
use Rattle.smp_labels.specs.declared.patch.Place.{Place}
use Rattle.smp_labels.specs.declared.words.LabelWords.{LabelWords}
use Rattle.smp_stop_steps.specs.Labels.{Patching, Whole, Patches}
use Rattle.trace_model.specs.declared.stop.Patch.{Patch}
use Rattle.trace_model.specs.Labels.{front_of, patch_to, popped}

-- what is left of a patch of a key are these stores: the first of them is next, and what is left then are the others
abbrev pub Leads : LabelWords → ℕ → Patch → List (Place × ℕ) → Type 0
Leads words key patch [] = front_of words key patch ≡ None
Leads words key patch (next ∷ rest) = (front_of words key patch ≡ Some next) × Leads words key (popped patch next.0) rest

-- For each count that a patch finds and each that it leaves, also at an end of its range, the model takes just the stores that the
-- machine plans, in their order, where both have the same entries.
abbrev pub PatchesStoreThePlan : Type 0
PatchesStoreThePlan = (words : LabelWords) (key old : ℕ) (new : Option ℕ) (entries : List ℕ) → key < 4 → length entries ≤ 16
    → ((site : ℕ) → site < 16 → get_or words.entries site 0 ≡ get_or entries site 0)
    → Leads words key (patch_to old new) (plan_of key old (count_or old new) entries)

-- a patch that has made a store and leads to these
pub record HasLeft (words : LabelWords) (key : ℕ) (rest : List (Place × ℕ)) (told : Option Patch) : Type 0 where
  pub patch : Patch
  pub told_is : told ≡ Some patch
  pub edge : patch.at_edge ≡ false
  pub leads : Leads words key patch rest

-- Before the first store of a patch nothing is told of it. From then on, what is left of it is what is told.
abbrev pub PartIs : LabelWords → ℕ → List (Place × ℕ) → List (Place × ℕ) → Option Patch → Type 0
PartIs words key [] rest told = told ≡ None
PartIs words key (change ∷ made) rest told = HasLeft words key rest told

-- the same of the CPU that patches; nothing is told of a patch that has not begun
abbrev pub PatchingIs : LabelWords → Patching → Option Patch → Type 0
PatchingIs words Whole told = told ≡ None
PatchingIs words (Patches cpu work count made rest) told = PartIs words work.func made rest told
