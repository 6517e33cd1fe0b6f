-- What a CPU knows after a step of its own, as the step tells it.
use Rattle.std.specs.Prelude.{ℕ, ◌+◌, Bool, true, false, ◌==◌, ◌&&◌, ◌||◌, not, cond, Option, Some, None, List, [], ◌∷◌, ◌++◌, slice_index_or, slice_set}
use Rattle.smp_stop_steps.specs.Names.{has, is_on, Act, Field, One, Work, Word, Gate, Slot, Key, Site, DISABLE_IRQ, RUN, EXIT, OVER}
use Rattle.smp_stop_steps.specs.Threads.Known.{KnownStops, StopPart, setup_in, noting, attempting, stepped}
use Rattle.smp_stop_steps.specs.Seats.{StopRole, Free, In, Gives, Alters, Closes, Rests, Fills, Sets}
use Rattle.smp_stop_steps.specs.Tells.{carried_call, may_call, drafted, first_readings, is_one, is_patch, calls_at_run, plan_at}
use Rattle.smp_stop_steps.specs.{KeyCounts.moves, Labels.Reading, Labels.ReadKey, Labels.ReadSite, Stop.Inside, Sources.Source, Sources.Shut, Sources.Drafts}
use Rattle.smp_stop_steps.specs.{Sources.Owns, Sources.Collects, State.Moved, State.unmoved, State.Carries, State.Calls, State.Idle}
use Rattle.smp_stop_steps.specs.declared.known.OwnMove.TheVariants as own

-- with its moves: what each step at the gate, at its own stop and at keys tells is one more of them, and no other is

-- of the gate
abbrev pub gate_known : Act → Option ℕ → KnownStops → KnownStops
gate_known Act.Cas (Some n) v = noting own.Took (record v { part = record (v.part) { holds = true } })
gate_known Act.Cas None v = noting own.Busy v
gate_known Act.Store put v = noting own.Gave (record v { part = record (v.part) { holds = false } })
gate_known _ put v = v

-- of its own slot, before its stop is open

abbrev pub no_work : Work
no_work = record { kind = One; mask = 0; active = 0; func = 0; arg = 0 }

abbrev pub is_drafting : Source → Bool
is_drafting (Drafts w k) = true
is_drafting _ = false

-- the first field is stored
abbrev pub draft_known : ℕ → KnownStops → KnownStops
draft_known n v = record v { source = Drafts (drafted Field.Kind n no_work) 1 }

-- one more
abbrev pub drafts_more : Field → ℕ → Source → Source
drafts_more f n (Drafts w k) = Drafts (drafted f n w) (k + 1)
drafts_more f n y = y

abbrev pub drafted_known : Field → ℕ → KnownStops → KnownStops
drafted_known f n v = record v { source = drafts_more f n v.source }

-- the stop is open
abbrev pub opened_by : Source → KnownStops → KnownStops
opened_by (Drafts w k) v = noting (own.Began w) (record v { source = Owns w; part = record (v.part) { begun = v.part.begun ++ w ∷ [] } })
opened_by y v = v

-- of a stop that it is in

abbrev pub looked_to : ℕ → StopRole → StopRole
looked_to n (In s w a l t) = In s w a n t
looked_to n x = x

abbrev pub looked_known : ℕ → KnownStops → KnownStops
looked_known n v = record v { seat = looked_to n v.seat; part = record (v.part) { looks = v.part.looks ++ n ∷ [] } }

-- a CPU that leaves begins to read anew
abbrev pub read_since : Bool → ℕ → Work → KnownStops → StopPart
read_since leaves s w v = record (v.part) { readings = cond leaves (first_readings v.number s w) v.part.readings }

-- with the acknowledgement of RUN it carries the answer of its function, or of its patch
abbrev pub ran_since : Bool → StopPart → StopPart
ran_since at_run part = record part { calling = cond at_run (carried_call part.calling) part.calling }

-- the runner of a patch leaves it with its acknowledgement
abbrev pub acked_by : ℕ → StopRole → KnownStops → KnownStops
acked_by found (In s w a l t) v =
    record v { seat = In s w l l (cond (found == 1) Fills Rests); part = ran_since (l == RUN) (read_since (l == EXIT && not (found == 1)) s w v) }
acked_by found (Alters s w count made rest) v =
    record v { seat = In s w RUN RUN (cond (found == 1) Fills Rests); part = record (v.part) { calling = Carries 0 } }
acked_by found x v = v

abbrev pub refilled_by : StopRole → StopRole
refilled_by (In s w a l t) = In s w a l Sets
refilled_by x = x

abbrev pub raised_by : ℕ → StopRole → KnownStops → KnownStops
raised_by n (In s w a l t) v = record v { seat = In s w a l Rests; part = read_since (n == OVER) s w v }
raised_by n x v = v

abbrev pub given_by : ℕ → StopRole → StopRole
given_by n (In s w a l t) = Gives s w a n
given_by n x = x

-- with the load of the argument it calls the function, where it may
abbrev pub called_by : ℕ → StopRole → KnownStops → KnownStops
called_by found (In s w a l t) v =
    cond (may_call v.number w (Inside a l)) (record v { part = record (v.part) { calling = Calls (record { func = w.func; arg = found; answer = 0 }) } }) v
called_by found x v = v

-- it has called the function of this work
abbrev pub has_called : ℕ → Work → Bool
has_called me w = is_one w.kind || calls_at_run me w

abbrev pub completed_with : ℕ → ℕ → Work → ℕ → KnownStops → KnownStops
completed_with found s w x v = record v {
  seat = cond (found == 1) (Closes s) Free;
  part = record (v.part) {
    calling = Idle;
    answers = slice_set v.part.answers s (slice_index_or v.part.answers s [] ++ x ∷ []);
    calls = cond (has_called v.number w) (v.part.calls ++ record { func = w.func; arg = w.arg; answer = x } ∷ []) v.part.calls;
  };
}

abbrev pub completed_by : ℕ → StopRole → KnownStops → KnownStops
completed_by found (In s w a l t) v = completed_with found s w 0 v
completed_by found (Gives s w a x) v = completed_with found s w x v
completed_by found x v = v

-- a store to a slot, by who drafts and by who is in its stop
abbrev pub member_stored : Field → ℕ → KnownStops → KnownStops
member_stored Field.Ack n v = record v { seat = refilled_by v.seat }
member_stored Field.State n v = raised_by n v.seat v
member_stored Field.Result n v = record v { seat = given_by n v.seat }
member_stored Field.Done n v = record v { seat = Free }
member_stored _ n v = v

abbrev pub slot_stored : Field → ℕ → KnownStops → KnownStops
slot_stored Field.Kind n v = draft_known n v
slot_stored Field.Roll n v = opened_by v.source v
slot_stored f n v = cond (is_drafting v.source) (drafted_known f n v) (member_stored f n v)

-- of its own stop
abbrev pub done_by : ℕ → Source → Source
done_by found (Owns w) = cond (found == 0) (Owns w) (Collects w)
done_by found y = y

-- a look at done that finds it set is told by the state of its source
abbrev pub done_known : ℕ → KnownStops → KnownStops
done_known found v = record v { source = done_by found v.source; moves = cond (found == 0) (v.moves ++ own.NotDone ∷ []) v.moves }

abbrev pub collected_known : ℕ → KnownStops → KnownStops
collected_known n v = noting (own.Collected n) (record v { source = Shut; part = record (v.part) { collected = v.part.collected ++ n ∷ [] } })

-- an attempt to enter the stop of this slot: the CPU is in it where the roll has it, and learns its work
abbrev pub entered_known : ℕ → Work → Bool → KnownStops → KnownStops
entered_known s w there v = attempting s there (cond there (record v { seat = In s w 0 0 Rests }) v)

-- a step on a slot; one that enters learns this work
abbrev pub slot_known : Work → KnownStops → ℕ → Act → Field → Option ℕ → Option ℕ → KnownStops
slot_known w v s Act.Store f found (Some n) = slot_stored f n v
slot_known w v s Act.And Field.Roll (Some found) put = entered_known s w (has found v.number) v
slot_known w v s Act.Load Field.State (Some found) put = looked_known found v
slot_known w v s Act.Load Field.Arg (Some found) put = called_by found v.seat v
slot_known w v s Act.Load Field.Done (Some found) put = done_known found v
slot_known w v s Act.Load Field.Result (Some found) put = collected_known found v
slot_known w v s Act.Sub Field.Ack (Some found) put = acked_by found v.seat v
slot_known w v s Act.Sub Field.Todo (Some found) put = completed_by found v.seat v
slot_known w v s _ f found put = v

-- of labels

abbrev pub reads_more : Reading → KnownStops → KnownStops
reads_more r v = record v { part = record (v.part) { readings = v.part.readings ++ r ∷ [] } }

-- it is to make a patch
abbrev pub is_patching : ℕ → ℕ → Work → Bool
is_patching a l w = (a == DISABLE_IRQ && l == RUN) && is_patch w.kind

-- a key is read, with this count
abbrev pub key_read_known : ℕ → ℕ → KnownStops → KnownStops
key_read_known k found v = noting (own.Found k found) (reads_more (ReadKey k (is_on found)) v)

abbrev pub key_loaded_by : ℕ → ℕ → StopRole → KnownStops → KnownStops
key_loaded_by k found (In s w a l t) v =
    cond (is_patching a l w) (record v { seat = Alters s w found [] (plan_at (setup_in v.setting) w found) }) (key_read_known k found v)
key_loaded_by k found x v = key_read_known k found v

abbrev pub altered_by : StopRole → StopRole
altered_by (Alters s w count made (change ∷ rest)) = Alters s w count (made ++ change ∷ []) rest
altered_by x = x

-- a count of these was moved
abbrev pub counted : List Moved → ℕ → ℕ → ℕ → List Moved
counted l k old new = slice_set l k (moves (slice_index_or l k unmoved) old new)

abbrev pub patched_from : StopRole → ℕ → ℕ → List Moved → List Moved
patched_from (Alters s w count made rest) k new l = counted l k count new
patched_from x k new l = l

abbrev pub key_stored_by : ℕ → ℕ → KnownStops → KnownStops
key_stored_by k n v = record v { seat = altered_by v.seat; part = record (v.part) { patched = patched_from v.seat k n v.part.patched } }

abbrev pub key_known : Act → ℕ → Option ℕ → Option ℕ → KnownStops → KnownStops
key_known Act.Load k (Some found) put v = key_loaded_by k found v.seat v
key_known Act.Store k found (Some n) v = key_stored_by k n v
key_known Act.Cas k (Some found) (Some n) v = record v { part = record (v.part) { nudged = counted v.part.nudged k found n } }
key_known Act.Cas k (Some found) None v = noting (own.Lost k) v
key_known _ k found put v = v

abbrev pub site_known : Act → ℕ → Option ℕ → KnownStops → KnownStops
site_known Act.Load i (Some found) v = reads_more (ReadSite i (is_on found)) v
site_known Act.Store i found v = record v { seat = altered_by v.seat }
site_known _ i found v = v

-- what a step of its own tells a CPU, beside that it has made it; one that enters learns this work
abbrev pub learned : Work → KnownStops → Act → Word → Option ℕ → Option ℕ → KnownStops
learned w v act Gate found put = gate_known act put v
learned w v act (Slot s f) found put = slot_known w v s act f found put
learned w v act (Key k) found put = key_known act k found put v
learned w v act (Site i) found put = site_known act i found v
learned w v act _ found put = v

-- the stores that only the CPU that was the last of its stop makes: the count again and the next phase, and done; each of them is
-- due at its own seat, and once
abbrev pub is_due_field : Field → Bool
is_due_field Field.Ack = true
is_due_field Field.State = true
is_due_field Field.Done = true
is_due_field _ = false

abbrev pub is_due : Bool → Act → Word → Bool
is_due drafting Act.Store (Slot s f) = is_due_field f && not drafting
is_due drafting _ _ = false

-- what a CPU knows after a step of its own: what the step tells, and one step more, but for a store that is due
abbrev pub known_entering : Work → KnownStops → Act → Word → Option ℕ → Option ℕ → KnownStops
known_entering w v act word found put =
    cond (is_due (is_drafting v.source) act word) (learned w v act word found put) (stepped 1 (learned w v act word found put))

-- the same of a step that enters no stop
abbrev pub known_told : KnownStops → Act → Word → Option ℕ → Option ℕ → KnownStops
known_told v act w found put = known_entering no_work v act w found put
