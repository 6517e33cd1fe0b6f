-- Why an event is none, by the kernel's names.
use Rattle.std.specs.Prelude.{◌≡◌, ℕ, false, List, [], ◌∷◌, ◌++◌, Option, Some, None, codes, slice_index_or}
use Rattle.std.specs.Fmt.{decimal, digits}
use Rattle.trace_model.specs.declared.event.CallEvent.TheVariants as calls
use Rattle.trace_model.specs.declared.event.Event.{Event}
use Rattle.trace_model.specs.declared.event.Event.TheVariants as event
use Rattle.trace_model.specs.declared.reason.Reason.{Reason}
use Rattle.trace_model.specs.declared.reason.Reason.TheVariants as reason
use Rattle.trace_judge.specs.Text.{broken_text}
use Rattle.trace_ftrace.specs.declared.names.BrokenEvent.{BrokenEvent}
use Rattle.trace_ftrace.specs.declared.names.Named.{Named}
use Rattle.trace_ftrace.specs.declared.names.Named.TheVariants as names

-- the addresses of the records and the names of the functions, by their numbers
pub record NamesValue : Type 0 where
  pub addresses : List ℕ
  pub functions : List (List ℕ)

-- a record by its address, and a function by its name
unfoldable pub address_text : ℕ → List ℕ
address_text csd = codes "csd " ++ digits 16 false csd

abbrev pub csd_text : NamesValue → ℕ → List ℕ
csd_text n id = address_text (slice_index_or n.addresses id 0)

unfoldable pub call_front : List ℕ
call_front = codes "the call of "

abbrev pub function_text : NamesValue → ℕ → List ℕ
function_text n func = slice_index_or n.functions func []

-- a reason that names a record or the function of a call, by the kernel's names
abbrev pub named_reason : NamesValue → Reason → Option (List ℕ)
named_reason n (reason.RecordFree id) = Some (csd_text n id ++ codes " is free")
named_reason n (reason.RecordQueued id cpu) = Some (csd_text n id ++ codes " is queued for CPU " ++ decimal cpu)
named_reason n (reason.RecordInBatch id cpu) = Some (csd_text n id ++ codes " is in the batch of CPU " ++ decimal cpu)
named_reason n (reason.RecordRuns id cpu) = Some (csd_text n id ++ codes " runs on CPU " ++ decimal cpu)
named_reason n (reason.ComesFirst id) = Some (csd_text n id ++ codes " comes first")
named_reason n (reason.IsLocked id) = Some (csd_text n id ++ codes " is locked")
named_reason n (reason.NotBegun id) = Some (call_front ++ csd_text n id ++ codes " has not begun")
named_reason n (reason.NotOver id) = Some (call_front ++ csd_text n id ++ codes " is not over")
named_reason n (reason.CallIs func info) = Some (codes "its call is " ++ function_text n func)
named_reason n why = None

-- what is said of a record or of a function
abbrev pub named_text : NamesValue → Named → List ℕ
named_text n (names.Plain id back) = csd_text n id ++ back.now
named_text n (names.On id back cpu) = csd_text n id ++ back.now ++ decimal cpu
named_text n (names.Call id back) = call_front ++ csd_text n id ++ back.now
named_text n (names.Function func) = codes "its call is " ++ function_text n func

-- what was found is what a reason says, whatever the names are
abbrev pub IsNamedText : Option Named → Reason → Type 0
IsNamedText None why = (n : NamesValue) → named_reason n why ≡ None
IsNamedText (Some what) why = (n : NamesValue) → named_reason n why ≡ Some (named_text n what)

-- the name of an event of calls that a text tells
abbrev pub call_word : Event → Option (List ℕ)
call_word (event.Call (calls.Queue id to class func info)) = Some (codes "queue")
call_word (event.Call (calls.Begin id func info)) = Some (codes "begin")
call_word (event.Call (calls.Free id)) = Some (codes "free")
call_word (event.Call calls.Take) = Some (codes "take")
call_word (event.Call (calls.End id)) = Some (codes "end")
call_word e = None

-- the line of an event that no run has, by the kernel's names where it is of calls
abbrev pub reason_line : BrokenEvent → List ℕ → List ℕ → List ℕ
reason_line b word text =
    codes "line " ++ decimal b.line ++ codes ": CPU " ++ decimal b.cpu ++ codes " " ++ word ++ codes ": " ++ text ++ 10 ∷ []

abbrev pub line_as : BrokenEvent → Option (List ℕ) → Option (List ℕ) → List ℕ
line_as b (Some word) (Some text) = reason_line b word text
line_as b word text = broken_text b.line b.cpu b.event b.why

unfoldable pub named_line : NamesValue → BrokenEvent → List ℕ → Named → List ℕ
named_line n b word what = reason_line b word (named_text n what)

unfoldable pub broken_line : NamesValue → BrokenEvent → List ℕ
broken_line n b = line_as b (call_word b.event) (named_reason n b.why)
