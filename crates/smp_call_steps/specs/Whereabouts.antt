-- Where a record is, as the words and the stages tell it.
use Rattle.std.specs.Prelude.{ℕ, zero, suc, Bool, ◌==◌, ◌||◌, if◌then◌else◌, List, Option, Some, None}
use Rattle.std.specs.List.{list_any}
use Rattle.smp_words.specs.Size.{cpus, records}
use Rattle.smp_words.specs.Layout.{number_in}
use Rattle.smp_words.specs.declared.word.Word.TheVariants.{Flags, Head}
use Rattle.smp_call_steps.specs.Batches.{between_of, down_link, has_record, is_this, running_of, up_link}
use Rattle.smp_call_steps.specs.Names.{RecPlace, Stage}
use Rattle.smp_call_steps.specs.Names.place
use Rattle.smp_call_steps.specs.Queues.{chain_in}
use Rattle.smp_call_steps.specs.Stages.{ControlValue}
use Rattle.smp_call_steps.specs.Value.{control_of}
use Rattle.smp_call_steps.specs.Words.{nexts_in}

-- the next words lead from this link through the record
abbrev pub leads_through : List ℕ → ℕ → ℕ → Bool
leads_through words link id = list_any (λ r. r == id) (chain_in (nexts_in (number_in words)) records link)

-- the record is in what is left to run of a batch, of which the CPU is at this stage
abbrev pub is_left : List ℕ → Option Stage → ℕ → Bool
is_left words stage id = is_this id (between_of stage) || (leads_through words (down_link stage) id || leads_through words (up_link stage) id)

-- where it is, if it is at this CPU: in its queue, in its batch, or its SYNC call runs
abbrev pub place_at : List ℕ → Option Stage → ℕ → ℕ → Option RecPlace
place_at words stage cpu id =
    if leads_through words (number_in words (Head cpu)) id then Some (place.Queued cpu)
    else (if is_left words stage id then Some (place.Batch cpu)
    else (if has_record id (running_of stage) then Some (place.Running cpu) else None))

-- the first place, else the second
abbrev pub or_place : Option RecPlace → Option RecPlace → Option RecPlace
or_place (Some p) second = Some p
or_place None second = second

-- where it is, if it is at one of the first n CPUs
unfoldable pub place_below : List ℕ → List ControlValue → ℕ → ℕ → Option RecPlace
place_below words controls id zero = None
place_below words controls id (suc n) = or_place (place_below words controls id n) (place_at words (control_of controls n).stage n id)

-- this place, else held by its owner
abbrev pub or_held : Option RecPlace → RecPlace
or_held (Some p) = p
or_held None = place.Held

-- the place of a record: that of an unlocked one is free
abbrev pub place_in : List ℕ → List ControlValue → ℕ → RecPlace
place_in words controls id =
    if number_in words (Flags id) == 0 then place.Free else or_held (place_below words controls id cpus)
