-- Which events are shown, which CPUs have a column or a lane, and which event is marked.
use Rattle.std.specs.Prelude.{ℕ, ◌-◌, Bool, true, ◌&&◌, not, if◌then◌else◌, nat_le, List, [], ◌∷◌, ◌++◌, length, Option, Some, None}
use Rattle.std.specs.List.{filter, slice_get}
use Rattle.smp_mask.specs.Mask.{has, members}
use Rattle.view.specs.declared.choice.Choice.{Choice}
use Rattle.view.specs.declared.choice.Mark.{Mark}
use Rattle.view.specs.declared.choice.Mark.TheVariants.{Event, Last}
use Rattle.trace_events.specs.declared.rows.Row.{Row}
use Rattle.view.specs.Cells.{is_column}
use Rattle.trace_events.specs.Rows.{is_refused}

abbrev pub has_cpu : Option ℕ → ℕ → Bool
has_cpu None cpu = true
has_cpu (Some cpus) cpu = has cpus cpu

-- from the first to the last, of these CPUs
abbrev pub is_chosen : Choice → Row → Bool
is_chosen c row = (nat_le c.from row.number && nat_le row.number c.to) && has_cpu c.cpus row.cpu

-- the CPUs of a mask that are chosen, ascending
abbrev pub chosen_of : Choice → ℕ → List ℕ
chosen_of c online = filter (has_cpu c.cpus) (members online)

-- a refused event names a CPU that is chosen, and is none of these
abbrev pub is_named : Choice → List ℕ → Row → Bool
is_named c cpus row = (is_refused row.what && has_cpu c.cpus row.cpu) && not (is_column cpus row.cpu)

abbrev pub with_named : Choice → List ℕ → Option Row → List ℕ
with_named c cpus None = cpus
with_named c cpus (Some row) = if is_named c cpus row then cpus ++ row.cpu ∷ [] else cpus

-- the CPUs that have a lane: the chosen ones online, and then the one of a refused event, which is the last
abbrev pub lanes_of : Choice → ℕ → List Row → List ℕ
lanes_of c online rows = with_named c (chosen_of c online) (slice_get rows (length rows - 1))

abbrev pub number_of : Option Row → Option ℕ
number_of None = None
number_of (Some row) = Some row.number

-- the number of the marked event: the one that the mark names, or the last row's
abbrev pub marked_in : Option Mark → List Row → Option ℕ
marked_in None rows = None
marked_in (Some (Event number)) rows = Some number
marked_in (Some Last) rows = number_of (slice_get rows (length rows - 1))
