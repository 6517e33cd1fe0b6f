-- What of a CPU only its own stop calls change.
use Rattle.std.specs.Prelude.{ℕ, Bool, Option, Some, None, List, [], ◌∷◌, ◌++◌, slice_index_or, slice_set}
use Rattle.smp_multi.specs.Names.{Work, Moved}
use Rattle.smp_machine.specs.declared.work_queue.Item.{Item}
use Rattle.smp_machine.specs.declared.work_queue.PutNote.{PutNote}
use Rattle.smp_multi.specs.Names.{OwnMove}
use Rattle.smp_machine.specs.Moves.{told}
use Rattle.smp_machine.specs.MachineCpu.{MachineCpuValue}
use Rattle.smp_machine.specs.Passes.{total}

-- whether it holds the gate, the work of its stop that is not collected, the stops that it has begun, the results that it
-- has collected, by how much it has nudged each key, what it has put into the queues, what is noted with each put, and those of
-- its own moves that tell more than that it waits
pub record Own : Type 0 where
  pub gate : Bool
  pub pending : Option Work
  pub begun : List Work
  pub collected : List ℕ
  pub nudged : List Moved
  pub put : List (List Item)
  pub noted : List (List PutNote)
  pub moves : List OwnMove

abbrev pub own_of : MachineCpuValue → Own
own_of p = record {
  gate = p.stops.part.holds;
  pending = p.stops.pending;
  begun = p.stops.part.begun;
  collected = p.stops.part.collected;
  nudged = p.stops.part.nudged;
  put = p.passes.put;
  noted = p.passes.noted;
  moves = told p.stops.moves;
}

-- with the gate or without
abbrev pub with_gate : Bool → Own → Own
with_gate b o = record o { gate = b }

-- with these moves
abbrev pub with_moves : List OwnMove → Own → Own
with_moves more o = record o { moves = o.moves ++ more }

-- with a stop begun
abbrev pub with_begun : Work → Own → Own
with_begun work o = record o { pending = Some work; begun = o.begun ++ work ∷ [] }

-- with its result collected
abbrev pub with_collected : ℕ → Own → Own
with_collected result o = record o { pending = None; collected = o.collected ++ result ∷ [] }

-- one item, or one note, more in this queue
abbrev pub put_one : {A : Type 0} → A → ℕ → List (List A) → List (List A)
put_one x cpu put = slice_set put cpu (slice_index_or put cpu [] ++ x ∷ [])

-- the same in each of these queues, in order
abbrev pub put_all : Item → List ℕ → List (List Item) → List (List Item)
put_all x [] put = put
put_all x (cpu ∷ more) put = put_all x more (put_one x cpu put)

-- what is noted with these puts, each with how many there were before it
abbrev pub note_all : Bool → Option Work → Item → List ℕ → List (List Item) → List (List PutNote) → List (List PutNote)
note_all gate stop x [] put noted = noted
note_all gate stop x (cpu ∷ more) put noted =
    note_all gate stop x more (put_one x cpu put) (put_one (record { gate = gate; stop = stop; before = total put }) cpu noted)

-- with this item put into each of these queues, in order; with each put is noted whether the gate is held, and the own stop
abbrev pub with_put : Item → List ℕ → Own → Own
with_put x to o = record o { put = put_all x to o.put; noted = note_all o.gate o.pending x to o.put o.noted }
