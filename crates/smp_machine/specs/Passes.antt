-- What one CPU has put into the stopper queues, and taken from its own.
use Rattle.std.specs.Prelude.{◌≡◌, ℕ, ◌+◌, ◌<◌, nat_lt, if◌then◌else◌, Option, List, [], ◌∷◌, ◌++◌, length, map, slice_index_or, slice_set}
use Rattle.atomic_table.specs.Seated.{TableId}
use Rattle.crossbeam_queue.specs.Passes.{Pass, view}
use Rattle.crossbeam_queue.specs.declared.array_queue.Doing.{Doing}
use Rattle.crossbeam_queue.specs.declared.array_queue.Slotted.{Slotted}
use Rattle.smp_words.specs.Size.{cpus}
use Rattle.smp_multi.specs.Cpu.{CpuValue as StopCpuValue}
use Rattle.smp_machine.specs.declared.work_queue.Item.{Item}
use Rattle.smp_machine.specs.declared.work_queue.Knows.{Knows}
use Rattle.smp_machine.specs.declared.work_queue.PutNote.{PutNote}
use Rattle.smp_machine.specs.declared.work_queue.Knows.TheVariants.{Takes, Puts}
use Rattle.smp_machine.specs.WorkQueue.{IsKnown}

-- one CPU's part: the queues, its number, what it has put into each queue, what is noted with each of these puts, and what it has
-- taken from its own
pub record PassesValue : Type 0 where
  pub queues : List TableId
  pub number : ℕ
  pub put : List (List Item)
  pub noted : List (List PutNote)
  pub taken : List Item

abbrev pub items_of : Knows → List Item
items_of (Takes n l) = l
items_of (Puts s l notes) = l

abbrev pub notes_of : Knows → List PutNote
notes_of (Takes n l) = []
notes_of (Puts s l notes) = notes

abbrev pub IsTakes : Knows → Type 0
IsTakes (Takes n l) = Unit {0}
IsTakes (Puts s l notes) = ⊥

abbrev pub IsPuts : ℕ → Knows → Type 0
IsPuts n (Takes m l) = ⊥
IsPuts n (Puts s l notes) = s ≡ n

-- the names of the queues of some passes
abbrev pub ids_of : List (Pass Item Knows) → List TableId
ids_of passes = map (λ p. p.table_id) passes

-- what was put by them
abbrev pub put_of : List (Pass Item Knows) → List (List Item)
put_of passes = map (λ p. items_of (view p)) passes

-- what is noted with it
abbrev pub noted_of : List (Pass Item Knows) → List (List PutNote)
noted_of passes = map (λ p. notes_of (view p)) passes

-- the passes of a CPU, as contracts see them
abbrev pub passes_of : ℕ → List (Pass Item Knows) → Pass Item Knows → PassesValue
passes_of number to own = record { queues = ids_of to; number = number; put = put_of to; noted = noted_of to; taken = items_of (view own) }

-- a pass by which the source of this number puts
pub record IsSource (number : ℕ) (p : Pass Item Knows) : Type 0 where
  pub empty : p.me.1 ≡ []
  pub puts : IsPuts number (view p)

-- the passes of a CPU: one of each queue by which it puts, and one of its own by which it takes
pub record AreHeld (number : ℕ) (to : List (Pass Item Knows)) (own : Pass Item Knows) : Type 0 where
  pub below : number < cpus
  pub sized : length to ≡ cpus
  pub sources : (i : ℕ) (p : Pass Item Knows) → i < cpus → p ≡ slice_index_or to i p → IsSource number p
  pub own_empty : own.me.1 ≡ []
  pub own_takes : IsTakes (view own)
  pub own_queue : own.table_id ≡ slice_index_or (ids_of to) number own.table_id

-- what a CPU has put into this queue
abbrev pub put_to : PassesValue → ℕ → List Item
put_to p cpu = slice_index_or p.put cpu []

-- what is noted with each of these
abbrev pub noted_to : PassesValue → ℕ → List PutNote
noted_to p cpu = slice_index_or p.noted cpu []

-- how many items it has put, into all queues
abbrev pub total : List (List Item) → ℕ
total [] = 0
total (l ∷ more) = length l + total more

-- what it notes with its next put: how it stands with the gate and with its own stop, and how many items it has put
abbrev pub note_of : StopCpuValue → PassesValue → PutNote
note_of c p = record { gate = c.part.holds; stop = c.pending; before = total p.put }

-- it has put this item into this queue, and has noted this with it
abbrev pub puts : ℕ → Item → PutNote → PassesValue → PassesValue
puts cpu x note p = record p { put = slice_set p.put cpu (put_to p cpu ++ x ∷ []); noted = slice_set p.noted cpu (noted_to p cpu ++ note ∷ []) }

-- it has taken this item
abbrev pub takes : Item → PassesValue → PassesValue
takes x p = record p { taken = p.taken ++ x ∷ [] }

-- The law: what the source has put into this queue are its items of all that were taken there and then those that are
-- there, in order, by a state of the queue whose other passes know the same.
abbrev pub PutIsShown : PassesValue → ℕ → Type 0
PutIsShown p cpu = IsKnown (Puts p.number (put_to p cpu) (noted_to p cpu))

-- the same of what a CPU has taken
abbrev pub TakenIsShown : PassesValue → Type 0
TakenIsShown p = (n : ℕ) × IsKnown (Takes n p.taken)

-- since then a CPU has taken works, and the last of them is of its own stop
pub record LastIsOwn (old new : PassesValue) : Type 0 where
  pub others : List Item
  pub last : Item
  pub own : last.slot ≡ old.number
  pub taken_are : new.taken ≡ old.taken ++ (others ++ last ∷ [])

-- the names of the queues
abbrev pub queue_ids : {Q A : Type 0} → List (Slotted (Option Item) (Doing Item Knows) Q A) → List TableId
queue_ids queues = map (λ q. q.table.shared.table_id) queues

-- the pass of a queue's taker, once this number of sources have theirs
pub record IsTaker (n : ℕ) (p : Pass Item Knows) : Type 0 where
  pub empty : p.me.1 ≡ []
  pub knows : view p ≡ Takes n []

-- the passes of the takers of these queues, each with the number of sources that have theirs there
pub record AreTakers (ids : List TableId) (next : ℕ → ℕ) (takers : List (Pass Item Knows)) : Type 0 where
  pub ids_are : ids_of takers ≡ ids
  pub each : (i : ℕ) (p : Pass Item Knows) → i < length takers → p ≡ slice_index_or takers i p → IsTaker (next i) p

-- the passes of one source for these queues
pub record AreSources (ids : List TableId) (source : ℕ) (to : List (Pass Item Knows)) : Type 0 where
  pub ids_are : ids_of to ≡ ids
  pub each : (i : ℕ) (p : Pass Item Knows) → i < length to → p ≡ slice_index_or to i p → (p.me.1 ≡ []) × (view p ≡ Puts source [] [])

-- those of some sources, from this one on
abbrev pub AreGiven : List TableId → ℕ → List (List (Pass Item Knows)) → Type 0
AreGiven ids first given = (i : ℕ) (to : List (Pass Item Knows)) → i < length given → to ≡ slice_index_or given i to → AreSources ids (first + i) to

-- how many sources have a pass of queue i, where those below c have given this source its own
abbrev pub given_below : ℕ → ℕ → ℕ → ℕ
given_below c source i = if nat_lt i c then source + 1 else source

-- a CPU that has put nothing and taken nothing
abbrev pub fresh_passes : List TableId → ℕ → PassesValue
fresh_passes ids number = record { queues = ids; number = number; put = map (λ _. []) ids; noted = map (λ _. []) ids; taken = [] }

-- the passes of some CPUs that have done nothing, from this one on
abbrev pub AreFresh : List TableId → ℕ → List PassesValue → Type 0
AreFresh ids first passes = (i : ℕ) (p : PassesValue) → i < length passes → p ≡ slice_index_or passes i p → p ≡ fresh_passes ids (first + i)
