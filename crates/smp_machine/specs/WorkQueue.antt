-- One stopper queue, by what its passes know.
use Rattle.std.specs.Prelude.{◌≡◌, ℕ, ◌+◌, ◌<◌, ◌≤◌, ◌==◌, if◌then◌else◌, List, [], ◌∷◌, ◌++◌}
use mathlib.Core.Option.{some}
use lib.ListN.{get_elem?}
use Rattle.smp_machine.specs.declared.work_queue.Item.{Item}
use Rattle.smp_machine.specs.declared.work_queue.Knows.{Knows}
use Rattle.smp_machine.specs.declared.work_queue.PutNote.{PutNote}
use Rattle.smp_machine.specs.declared.work_queue.Knows.TheVariants.{Takes, Puts}

-- the items of one source, in order
abbrev pub items_by : ℕ → List Item → List Item
items_by source [] = []
items_by source (x ∷ xs) = if x.slot == source then x ∷ items_by source xs else items_by source xs

-- whose pass is at a port: the taker's, or one source's own
abbrev pub IsAtPort : (taker : ℕ) → (port : ℕ → ℕ) → (next : ℕ) → (taken items : List Item) → ℕ → Knows → Type 0
IsAtPort taker port next taken items p (Takes n l) = (p ≡ taker) × (n ≡ next) × (l ≡ taken)
IsAtPort taker port next taken items p (Puts s l notes) = (p ≡ port s) × (s < next) × (l ≡ items_by s (taken ++ items))

-- The rule of a queue: its taker knows what was taken, and of each source that has a pass the items that were taken, and
-- then those in the queue, are those that it has put, in order. What is noted with them is free. There are no other passes.
pub record IsInOrder (items : List Item) (views : List Knows) : Type 0 where
  pub taker : ℕ
  pub port : ℕ → ℕ
  -- how many sources have a pass
  pub next : ℕ
  pub taken : List Item
  pub takes : get_elem? views taker ≡ some (Takes next taken)
  pub puts : (s : ℕ) → s < next → (notes : List PutNote) × (get_elem? views (port s) ≡ some (Puts s (items_by s (taken ++ items)) notes))
  pub each : (p : ℕ) (v : Knows) → get_elem? views p ≡ some v → IsAtPort taker port next taken items p v
  -- the other sources have put nothing
  pub fresh : (s : ℕ) → next ≤ s → items_by s (taken ++ items) ≡ []

-- the taker, once one source more has a pass
abbrev pub gives : Knows → Knows
gives (Takes n l) = Takes (n + 1) l
gives (Puts s l notes) = Puts s l notes

-- that source's pass
abbrev pub given : Knows → Knows
given (Takes n l) = Puts n [] []
given (Puts s l notes) = Puts s [] []

-- an item is put, and this is noted with it
abbrev pub puts_more : PutNote → Knows → Item → Knows
puts_more note (Takes n l) x = Takes n l
puts_more note (Puts s l notes) x = Puts s (l ++ x ∷ []) (notes ++ note ∷ [])

-- an item is taken
abbrev pub takes_more : Knows → Item → Knows
takes_more (Takes n l) x = Takes n (l ++ x ∷ [])
takes_more (Puts s l notes) x = Puts s l notes

-- a pass of a queue whose rule holds knows this
pub record IsKnown (v : Knows) : Type 0 where
  pub items : List Item
  pub views : List Knows
  pub port : ℕ
  pub in_order : IsInOrder items views
  pub at : get_elem? views port ≡ some v
