-- The steps of the commands of the stop half, one after another.
use Rattle.std.specs.Int.{w32, cast_signed}
use Rattle.std.specs.Prelude.{ℕ, ◌+◌, ◌-◌, ◌*◌, ◌%◌, ◌^◌, ◌<◌, ◌≤◌, Bool, true, false, ◌==◌, ◌&&◌, ◌||◌, if◌then◌else◌, Option, Some, None, List, [], ◌∷◌, ◌++◌}
use Rattle.std.specs.Prelude.{length}
use Rattle.smp_labels.specs.{Entries.entry_at, Entries.IsEntryWord, Kinds.xor, declared.keys.Change.Change as KeyChange, declared.keys.Change.TheVariants.Up}
use Rattle.smp_labels.specs.{declared.keys.Change.TheVariants.Down, Plans.site_change}
use Rattle.smp_words.specs.Kinds.{kind_at}
use Rattle.smp_words.specs.declared.access.Access.TheVariants.{Load, Store, Exchange, Sub, And}
use Rattle.smp_stop_steps.specs.Names.{has, is_on, change_of, count_after, Place, MOST_SITES, Access, Note, Field, CompletionStage, RoundStage, StopStage}
use Rattle.smp_stop_steps.specs.Names.{TakeGate, OpenGate, Begin, Enter, EnterKind, EnterMask, EnterActive, Advance, Complete, Close, LoadDone, LoadResult}
use Rattle.smp_stop_steps.specs.Names.{NudgeKey, ExchangeKey, Visit, Kind, Work, Word, Gate, Slot, Key, Entry, Site, DISABLE_IRQ, RUN, EXIT}
use Rattle.smp_stop_steps.specs.declared.stage.StopStage.TheVariants.{ReadKey, ReadSite}
use Rattle.smp_stop_steps.specs.{Counts.mask_weight, Slots.begun_value, Labels.Change, Tells.is_multi}

-- all bits but one
abbrev pub all_but : ℕ → ℕ
all_but cpu = 2 ^ 64 - 1 - 1 * 2 ^ cpu % 2 ^ 64

-- the word of a place
abbrev pub label_word : Place → Word
label_word (Place.Key k) = Key k
label_word (Place.Site i) = Site i

-- the store at this place among those of a patch; past the end one that is never made
abbrev pub change_at : List Change → ℕ → Change
change_at [] i = (Place.Key 0, 0)
change_at (change ∷ rest) i = if i == 0 then change else change_at rest (i - 1)

abbrev pub store_of : Change → Access
store_of change = Store (label_word change.0) change.1

-- what a turn does next, where there are n CPUs
abbrev pub round_access : ℕ → List Change → Visit → RoundStage → Access
round_access n changes v (RoundStage.Look answer) = Load (Slot v.slot Field.State)
round_access n changes v (RoundStage.LoadFunc answer) = Load (Slot v.slot Field.Func)
round_access n changes v (RoundStage.LoadArg answer func) = Load (Slot v.slot Field.Arg)
round_access n changes v (RoundStage.LoadKey key change) = Load (Key key)
round_access n changes v (RoundStage.LoadEntry key word site) = Load (Entry site)
round_access n changes v (RoundStage.StoreChange made) = store_of (change_at changes made)
round_access n changes v (RoundStage.Acknowledge answer ran) = Sub (Slot v.slot Field.Ack)
round_access n changes v (RoundStage.Refill ran) = Store (Slot v.slot Field.Ack) (mask_weight n v.mask)
round_access n changes v (RoundStage.Raise ran) = Store (Slot v.slot Field.State) (v.acked + 1)

-- what a completion does next
abbrev pub completion_access : Visit → CompletionStage → Access
completion_access v (CompletionStage.LoadFunc answer) = Load (Slot v.slot Field.Func)
completion_access v (CompletionStage.LoadArg answer func) = Load (Slot v.slot Field.Arg)
completion_access v CompletionStage.StoreAnswer = Store (Slot v.slot Field.Result) v.answer
completion_access v CompletionStage.CountDown = Sub (Slot v.slot Field.Todo)

-- the access that a CPU makes next, where there are n CPUs; the changes are those of the patch that it makes
abbrev pub stop_access : ℕ → ℕ → List Change → StopStage → Access
stop_access n me changes TakeGate = Exchange Gate 0 (me + 1)
stop_access n me changes OpenGate = Store Gate 0
stop_access n me changes (Begin work f) = Store (Slot me f) (begun_value n work f)
stop_access n me changes (Enter slot) = And (Slot slot Field.Roll) (all_but me)
stop_access n me changes (EnterKind slot) = Load (Slot slot Field.Kind)
stop_access n me changes (EnterMask slot kind) = Load (Slot slot Field.Mask)
stop_access n me changes (EnterActive slot kind mask) = Load (Slot slot Field.Active)
stop_access n me changes (Advance v stage) = round_access n changes v stage
stop_access n me changes (Complete v stage) = completion_access v stage
stop_access n me changes (Close slot) = Store (Slot slot Field.Done) 1
stop_access n me changes LoadDone = Load (Slot me Field.Done)
stop_access n me changes LoadResult = Load (Slot me Field.Result)
stop_access n me changes (ReadKey k) = Load (Key k)
stop_access n me changes (ReadSite i) = Load (Site i)
stop_access n me changes (NudgeKey k up) = Load (Key k)
stop_access n me changes (ExchangeKey k expected new) = Exchange (Key k) expected new

-- where a CPU is in the stop half: its stage, none outside such a command; the stop that it is in; the changes of
-- its patch; whether its interrupts are on, and whether its own stop is open
pub record StopControlValue : Type 0 where
  pub stage : Option StopStage
  pub visit : Option Visit
  pub changes : List Change
  pub interrupts : Bool
  pub is_open : Bool

-- a CPU in no stop, outside a command
abbrev pub stop_outside : StopControlValue
stop_outside = record { stage = None; visit = None; changes = []; interrupts = true; is_open = false }

-- where it is after a step, and the note of that step
pub record StopOutcome : Type 0 where
  pub control : StopControlValue
  pub note : Option Note

abbrev pub stop_goes : StopControlValue → StopStage → StopOutcome
stop_goes c stage = record { control = record c { stage = Some stage }; note = None }

abbrev pub stop_ends : StopControlValue → Note → StopOutcome
stop_ends c n = record { control = record c { stage = None }; note = Some n }

-- begin stores the fields of a slot in this order, and the roll opens the stop
abbrev pub begun_next : StopControlValue → Work → Field → StopOutcome
begun_next c work Field.Kind = stop_goes c (Begin work Field.Mask)
begun_next c work Field.Mask = stop_goes c (Begin work Field.Active)
begun_next c work Field.Active = stop_goes c (Begin work Field.Func)
begun_next c work Field.Func = stop_goes c (Begin work Field.Arg)
begun_next c work Field.Arg = stop_goes c (Begin work Field.Result)
begun_next c work Field.Result = stop_goes c (Begin work Field.Todo)
begun_next c work Field.Todo = stop_goes c (Begin work Field.Done)
begun_next c work Field.Done = stop_goes c (Begin work Field.Ack)
begun_next c work Field.Ack = stop_goes c (Begin work Field.State)
begun_next c work Field.State = stop_goes c (Begin work Field.Roll)
begun_next c work Field.Roll = stop_ends (record c { is_open = true }) Note.Begun

-- the note of a turn that has acknowledged this phase
abbrev pub turn_note : ℕ → Bool → Note
turn_note p ran = if p == EXIT then Note.Left else if ran then Note.Ran else Note.Moved p

-- a turn ends; with EXIT the CPU has left, and its interrupts are on
abbrev pub turn_ends : StopControlValue → ℕ → Bool → StopOutcome
turn_ends c p ran = stop_ends (record c { interrupts = if p == EXIT then true else c.interrupts }) (turn_note p ran)

-- a new phase: at DISABLE_IRQ interrupts go off, at RUN an active CPU runs its function
abbrev pub looked_on : ℕ → StopControlValue → Visit → ℕ → ℕ → StopOutcome
looked_on me c v answer p = stop_goes (record c { interrupts = if p == DISABLE_IRQ then false else c.interrupts })
    (Advance v (if p == RUN && has v.active me then RoundStage.LoadFunc answer else RoundStage.Acknowledge answer false))

-- the visit once the phase is acknowledged
abbrev pub visit_acked : Visit → ℕ → Bool → Visit
visit_acked v answer ran = record v { acked = v.acked + 1; answer = if ran then answer else v.answer }

abbrev pub acked_on : StopControlValue → Visit → Bool → ℕ → StopOutcome
acked_on c v ran found = if found == 1 then stop_goes (record c { visit = Some v }) (Advance v (RoundStage.Refill ran))
    else turn_ends (record c { visit = Some v }) v.acked ran

-- a patch with this loaded entry, and the next one, or its stores
abbrev pub entry_on : StopControlValue → Visit → ℕ → ℕ → ℕ → ℕ → StopOutcome
entry_on c v key word site found = stop_goes (record c { changes = c.changes ++ site_change key (is_on word) site (entry_at found) })
    (Advance v (if found == 0 || site + 1 == MOST_SITES then RoundStage.StoreChange 0 else RoundStage.LoadEntry key word (site + 1)))

-- the first load of a patch: at the end of its range nothing is stored, and the answer is 1; nothing where the count
-- stays; the key alone where it is on or off as before; else the entries are loaded first
abbrev pub key_on : StopControlValue → Visit → ℕ → ℕ → Option ℕ → StopOutcome
key_on c v key found None = stop_goes (record c { changes = [] }) (Advance v (RoundStage.Acknowledge 1 true))
key_on c v key found (Some new) = if found == new then stop_goes (record c { changes = [] }) (Advance v (RoundStage.Acknowledge 0 true))
    else stop_goes (record c { changes = (Place.Key key, new) ∷ [] })
    (Advance v (if xor (is_on found) (is_on new) then RoundStage.LoadEntry key new 0 else RoundStage.StoreChange 0))

abbrev pub round_outcome : ℕ → StopControlValue → Visit → RoundStage → ℕ → StopOutcome
round_outcome me c v (RoundStage.Look answer) found = if found == v.acked then stop_ends c Note.Same else looked_on me c v answer found
round_outcome me c v (RoundStage.LoadFunc answer) found = stop_goes c (Advance v (RoundStage.LoadArg answer found))
round_outcome me c v (RoundStage.LoadArg answer func) found =
    if is_multi v.kind then record { control = record c { stage = Some (Advance v (RoundStage.Acknowledge answer true)) }; note = Some (Note.Run func found) }
    else stop_goes c (Advance v (RoundStage.LoadKey func (change_of found)))
round_outcome me c v (RoundStage.LoadKey key change) found = key_on c v key found (count_after change found)
round_outcome me c v (RoundStage.LoadEntry key word site) found = entry_on c v key word site found
round_outcome me c v (RoundStage.StoreChange made) found =
    stop_goes c (Advance v (if made + 1 == length c.changes then RoundStage.Acknowledge 0 true else RoundStage.StoreChange (made + 1)))
round_outcome me c v (RoundStage.Acknowledge answer ran) found = acked_on c (visit_acked v answer ran) ran found
round_outcome me c v (RoundStage.Refill ran) found = stop_goes c (Advance v (RoundStage.Raise ran))
round_outcome me c v (RoundStage.Raise ran) found = turn_ends c v.acked ran

-- the first step of a completion with this answer
abbrev pub completes_from : Visit → CompletionStage
completes_from v = if v.answer == 0 then CompletionStage.CountDown else CompletionStage.StoreAnswer

abbrev pub completion_outcome : StopControlValue → Visit → CompletionStage → ℕ → StopOutcome
completion_outcome c v (CompletionStage.LoadFunc answer) found = stop_goes c (Complete v (CompletionStage.LoadArg answer found))
completion_outcome c v (CompletionStage.LoadArg answer func) found = let w = record v { answer = answer } in
    record { control = record c { stage = Some (Complete w (completes_from w)); visit = Some w }; note = Some (Note.Run func found) }
completion_outcome c v CompletionStage.StoreAnswer found = stop_goes c (Complete v CompletionStage.CountDown)
completion_outcome c v CompletionStage.CountDown found =
    if found == 1 then stop_goes (record c { visit = None }) (Close v.slot) else stop_ends (record c { visit = None }) Note.Finished

-- a CPU has entered, and has loaded what it is to know of the stop
abbrev pub visit_of : ℕ → Kind → ℕ → ℕ → Visit
visit_of slot kind mask active = record { slot = slot; kind = kind; mask = mask; active = active; acked = 0; answer = 0 }

-- up or down by one
abbrev pub nudge_of : Bool → KeyChange
nudge_of up = if up then Up else Down

-- the load of a nudge: it ends at the end of the range, and where the key would go on or off, which takes a stop
abbrev pub nudge_on : StopControlValue → ℕ → ℕ → Option ℕ → StopOutcome
nudge_on c k found None = stop_ends c Note.KeyRange
nudge_on c k found (Some new) = if xor (is_on found) (is_on new) then stop_ends c Note.Stop else stop_goes c (ExchangeKey k found new)

-- what follows, by the number that the access found
abbrev pub stop_outcome : ℕ → StopControlValue → StopStage → ℕ → StopOutcome
stop_outcome me c TakeGate found = stop_ends c (if found == 0 then Note.Gate else Note.Taken)
stop_outcome me c OpenGate found = stop_ends c Note.Open
stop_outcome me c (Begin work f) found = begun_next c work f
stop_outcome me c (Enter slot) found = if has found me then stop_goes c (EnterKind slot) else stop_ends c Note.Stale
stop_outcome me c (EnterKind slot) found = stop_goes c (EnterMask slot (kind_at found))
stop_outcome me c (EnterMask slot kind) found = stop_goes c (EnterActive slot kind found)
stop_outcome me c (EnterActive slot kind mask) found = stop_ends (record c { visit = Some (visit_of slot kind mask found) }) Note.Entered
stop_outcome me c (Advance v stage) found = round_outcome me c v stage found
stop_outcome me c (Complete v stage) found = completion_outcome c v stage found
stop_outcome me c (Close slot) found = stop_ends c Note.Finished
stop_outcome me c LoadDone found = if found == 0 then stop_ends c Note.Pending else stop_goes c LoadResult
stop_outcome me c LoadResult found = stop_ends (record c { is_open = false }) (Note.Result (cast_signed w32 (found % 2 ^ 32)))
stop_outcome me c (ReadKey k) found = stop_ends c (if is_on found then Note.On else Note.Off)
stop_outcome me c (ReadSite i) found = stop_ends c (if is_on found then Note.Jmp else Note.Nop)
stop_outcome me c (NudgeKey k up) found = nudge_on c k found (count_after (nudge_of up) found)
stop_outcome me c (ExchangeKey k expected new) found = stop_ends c (if found == expected then Note.Done else Note.Lost)

-- the answer of the function that the step calls, and 0 at any other step
abbrev pub answer_at : StopStage → ℕ
answer_at (Advance v (RoundStage.LoadArg answer func)) = answer
answer_at (Complete v (CompletionStage.LoadArg answer func)) = answer
answer_at _ = 0

-- the number found fits, and there is room for what it makes
abbrev pub FitsRound : StopControlValue → Visit → RoundStage → ℕ → Type 0
FitsRound c v (RoundStage.LoadFunc answer) found = found < 2 ^ 16
FitsRound c v (RoundStage.LoadEntry key word site) found = IsEntryWord found × (site < MOST_SITES) × (length c.changes ≤ site + 1)
FitsRound c v (RoundStage.StoreChange made) found = made < length c.changes
FitsRound c v (RoundStage.Acknowledge answer ran) found = v.acked ≤ RUN
FitsRound c v _ found = Unit {0}

abbrev pub FitsCompletion : CompletionStage → ℕ → Type 0
FitsCompletion (CompletionStage.LoadFunc answer) found = found < 2 ^ 16
FitsCompletion _ found = Unit {0}

abbrev pub FitsStop : StopControlValue → StopStage → ℕ → Type 0
FitsStop c (Advance v stage) found = FitsRound c v stage found
FitsStop c (Complete v stage) found = FitsCompletion stage found
FitsStop c _ found = Unit {0}

-- a stage of the source, of who closes a slot, of a reading, or of a nudge
abbrev pub IsOfSource : StopStage → Type 0
IsOfSource (Close slot) = Unit {0}
IsOfSource LoadDone = Unit {0}
IsOfSource LoadResult = Unit {0}
IsOfSource (ReadKey k) = Unit {0}
IsOfSource (ReadSite i) = Unit {0}
IsOfSource (NudgeKey k up) = Unit {0}
IsOfSource (ExchangeKey k expected new) = Unit {0}
IsOfSource _ = ⊥

-- the store that a patch makes next is one of its changes
abbrev pub FitsAccess : StopControlValue → StopStage → Type 0
FitsAccess c (Advance v (RoundStage.StoreChange made)) = made < length c.changes
FitsAccess c _ = Unit {0}
