-- The events that a step tells: by its word, by what it does there, and by what its CPU has done before.
use Rattle.std.specs.Prelude.{ℕ, ◌-◌, ◌^◌, ◌%◌, ◌&&◌, ◌==◌, nat_lt, if◌then◌else◌, List, [], ◌∷◌, Option, Some, None, unwrap_or}
use Rattle.smp_mask.specs.Mask.{has}
use Rattle.smp_labels.specs.Keys.{is_on}
use Rattle.trace_model.specs.declared.event.CallEvent.TheVariants as calls
use Rattle.trace_model.specs.declared.event.Event.{Event}
use Rattle.trace_model.specs.declared.event.Event.TheVariants.{Call, Stop, Label}
use Rattle.trace_model.specs.declared.event.LabelEvent.TheVariants as labels
use Rattle.trace_model.specs.declared.event.StopEvent.{StopEvent}
use Rattle.trace_model.specs.declared.event.StopEvent.TheVariants as stops
use Rattle.trace_model.specs.declared.stop.Task.{Task}
use Rattle.smp_words.specs.declared.field.Field.{Field}
use Rattle.smp_words.specs.declared.field.Field.TheVariants as field
use Rattle.smp_words.specs.declared.seen.Act.{Act}
use Rattle.smp_words.specs.declared.seen.Act.TheVariants as act
use Rattle.smp_words.specs.declared.seen.Note.{Note}
use Rattle.smp_words.specs.declared.seen.Note.TheVariants as note
use Rattle.smp_words.specs.declared.seen.Seen.{Seen}
use Rattle.smp_words.specs.declared.word.Word.{Word}
use Rattle.smp_words.specs.declared.word.Word.TheVariants as word
use Rattle.trace_events.specs.Past.{id_of, is_new, phase_of}
use Rattle.trace_events.specs.declared.past.Draft.{Draft}
use Rattle.trace_events.specs.declared.past.Past.{Past}
use Rattle.trace_events.specs.declared.step_events.StepEvents.{StepEvents}
use Rattle.trace_events.specs.declared.step_events.StepEvents.TheVariants.{Nothing, One, Two}
use Rattle.smp_words.specs.declared.phase.TheConstants.{PREPARE, DISABLE_IRQ, RUN}

-- a record is unlocked: the ASYNC call of the note begins too; a call that was given up tells nothing
abbrev pub of_unlock : ℕ → Option Note → StepEvents
of_unlock id (Some (note.Call source func info)) = Two (Call (calls.Unlock id)) (Call (calls.Begin id func info))
of_unlock id (Some note.Contended) = Nothing
of_unlock id _ = One (Call (calls.Unlock id))

-- a record's flags: they are seen without LOCK, or are stored so
abbrev pub of_flags : ℕ → Act → Seen → StepEvents
of_flags id act.Load s = if unwrap_or s.found 0 % 2 == 0 then One (Call (calls.Free (id_of id))) else Nothing
of_flags id act.Store s = if unwrap_or s.put 0 == 0 then of_unlock (id_of id) s.note else Nothing
of_flags id _ s = Nothing

-- a queue: a call joins it where the exchange wins, and a swap takes it
abbrev pub of_head : Past → ℕ → Act → Option ℕ → StepEvents
of_head p cpu act.Cas (Some put) = One (Call (calls.Queue (id_of (put - 1)) cpu p.post.class p.post.func p.post.info))
of_head p cpu act.Swap put = One (Call calls.Take)
of_head p cpu _ put = Nothing

-- an interrupt word: it is sent, or taken, or looked for
abbrev pub of_intr : ℕ → Act → Seen → StepEvents
of_intr cpu act.Store s = One (Call (calls.Send cpu))
of_intr cpu act.Swap s = if unwrap_or s.found 0 == 0 then One (Call calls.Idle) else One (Call calls.Accept)
of_intr cpu _ s = Nothing

-- a handling word: the SYNC call of the note begins
abbrev pub of_hand : Option Note → Seen → StepEvents
of_hand (Some (note.Call source func info)) s = One (Call (calls.Begin (id_of (unwrap_or s.put 0 - 2)) func info))
of_hand _ s = Nothing

-- a count of calls that have run: the call that the CPU last began is over
abbrev pub of_ran : Past → Act → StepEvents
of_ran p act.Store = One (Call (calls.End p.begun))
of_ran p _ = Nothing

-- the gate is taken where the exchange wins, and a store gives it up
abbrev pub of_gate : Act → Option ℕ → StepEvents
of_gate act.Cas (Some put) = One (Stop stops.Gate)
of_gate act.Store put = One (Stop stops.Ungate)
of_gate _ put = Nothing

-- the stop that was stored
abbrev pub task_of : Draft → Task
task_of d = record { kind = d.kind; mask = d.mask % 2 ^ 32; active = d.active % 2 ^ 32; func = d.func; arg = d.arg }

-- an event, and the CPU's interrupts go on where the note says that it has left
abbrev pub with_on : StopEvent → Option Note → StepEvents
with_on event (Some note.Left) = Two (Stop event) (Stop stops.On)
with_on event _ = One (Stop event)

-- the roll: the stop is open, or the CPU whose bit was there is in it
abbrev pub of_roll : Past → ℕ → Act → Seen → StepEvents
of_roll p source act.Store s = One (Stop (stops.Open s.cpu (task_of p.draft)))
of_roll p source act.And s = if nat_lt s.cpu 32 && has (unwrap_or s.found 0) s.cpu then One (Stop (stops.Enter source)) else Nothing
of_roll p source _ s = Nothing

-- the phase: interrupts go off where DISABLE_IRQ is new, and the phase grows beyond PREPARE
abbrev pub of_state : Act → Seen → StepEvents
of_state act.Load s = if (unwrap_or s.found 0 == DISABLE_IRQ) && is_new s.note then One (Stop stops.Off) else Nothing
of_state act.Store s = if nat_lt PREPARE (unwrap_or s.put 0) then with_on (stops.Raise (phase_of (unwrap_or s.put 0))) s.note else Nothing
of_state _ s = Nothing

-- the count of acknowledgements: the phase that the CPU last loaded anew is acknowledged
abbrev pub of_ack : Past → Act → Option Note → StepEvents
of_ack p act.Sub n = with_on (stops.Ack p.phase) n
of_ack p _ n = Nothing

-- the argument: the function of the note is entered
abbrev pub of_arg : Option Note → StepEvents
of_arg (Some (note.Run func arg)) = One (Stop (stops.Run func arg))
of_arg _ = Nothing

-- the count of those who have not completed
abbrev pub of_todo : Past → Act → StepEvents
of_todo p act.Sub = One (Stop (stops.Complete p.answer))
of_todo p _ = Nothing

-- the result of the note is collected
abbrev pub of_result : ℕ → Option Note → StepEvents
of_result cpu (Some (note.Result answer)) = One (Stop (stops.Collect cpu answer))
of_result cpu _ = Nothing

-- a word of the slot of this source
abbrev pub of_slot : Past → ℕ → Field → Seen → StepEvents
of_slot p source field.Roll s = of_roll p source s.act s
of_slot p source field.State s = of_state s.act s
of_slot p source field.Ack s = of_ack p s.act s.note
of_slot p source field.Arg s = of_arg s.note
of_slot p source field.Todo s = of_todo p s.act
of_slot p source field.Result s = of_result s.cpu s.note
of_slot p source _ s = Nothing

-- a compare-exchange of a key changes its count where it wins
abbrev pub of_nudge : ℕ → ℕ → Option ℕ → StepEvents
of_nudge key found (Some put) = One (Label (labels.Nudge key (nat_lt found put)))
of_nudge key found None = Nothing

-- a key: a load reads it, but for that of a patch at RUN, and a store is a patch's
abbrev pub of_key : Past → ℕ → Act → Seen → StepEvents
of_key p key act.Load s = if p.phase == RUN then Nothing else One (Label (labels.Key key (is_on (unwrap_or s.found 0))))
of_key p key act.Store s = One (Label (labels.Set key (unwrap_or s.put 0)))
of_key p key act.Cas s = of_nudge key (unwrap_or s.found 0) s.put
of_key p key _ s = Nothing

-- a site: a load reads it, and a store is a patch's
abbrev pub of_site : ℕ → Act → Seen → StepEvents
of_site site act.Load s = One (Label (labels.Site site (is_on (unwrap_or s.found 0))))
of_site site act.Store s = One (Label (labels.Turn site (is_on (unwrap_or s.put 0))))
of_site site _ s = Nothing

-- what a step tells
abbrev pub told_on : Past → Word → Seen → StepEvents
told_on p (word.Flags id) s = of_flags id s.act s
told_on p (word.Head cpu) s = of_head p cpu s.act s.put
told_on p (word.Intr cpu) s = of_intr cpu s.act s
told_on p (word.Hand cpu) s = of_hand s.note s
told_on p (word.Ran by from) s = of_ran p s.act
told_on p word.Gate s = of_gate s.act s.put
told_on p (word.Slot source f) s = of_slot p source f s
told_on p (word.Key key) s = of_key p key s.act s
told_on p (word.Site site) s = of_site site s.act s
told_on p _ s = Nothing

abbrev pub told_of : Past → Seen → StepEvents
told_of p s = told_on p s.word s

-- as a list
abbrev pub events_in : StepEvents → List Event
events_in Nothing = []
events_in (One event) = event ∷ []
events_in (Two first second) = first ∷ second ∷ []
