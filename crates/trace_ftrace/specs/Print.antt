-- The trace that a text tells.
use Rattle.std.specs.Prelude.{◌≡◌, ℕ, Bool, true, false, ◌||◌, nat_le, nat_lt, if◌then◌else◌, List, [], ◌∷◌, ◌++◌, length, Result, Ok, Err, Vec, codes}
use Rattle.std.specs.Fmt.{decimal}
use Rattle.std.specs.List.{flat_map}
use Rattle.smp_words.specs.FirstFault.{◌>>=◌}
use Rattle.trace_model.specs.declared.event.CallEvent.TheVariants as calls
use Rattle.trace_model.specs.declared.event.Event.{Event}
use Rattle.trace_model.specs.declared.event.Event.TheVariants as event
use Rattle.trace_events.specs.Text.{numbered_line}
use Rattle.trace_ftrace.specs.Kept.{KeptValue}
use Rattle.trace_ftrace.specs.Telling.{TellingValue}
use Rattle.trace_ftrace.specs.declared.told.Told.{Told}
use Rattle.trace_ftrace.specs.declared.wrong.Refusal.{Refusal}
use Rattle.trace_ftrace.specs.declared.wrong.Refusal.TheVariants as refusal

-- an event is of stops, or it is of a CPU from 32 on, or queues a call for one
abbrev pub needs_third : Event → Bool
needs_third (event.Call (calls.Queue id to class func info)) = nat_le 32 to
needs_third (event.Stop stop) = true
needs_third _ = false

abbrev pub is_third : Told → Bool
is_third x = nat_le 32 x.cpu || needs_third x.event

abbrev pub has_third : List Told → Bool
has_third [] = false
has_third (x ∷ xs) = is_third x || has_third xs

-- what is in front of the events: all CPUs, of version 2, or of version 3 where that is needed
unfoldable pub head_text : Bool → List ℕ
head_text false = codes "smp 2 trace\ncpus 32 0-31\nwithout gate interrupts order raises switches unlocks\n"
head_text true = codes "smp 3 trace\ncpus 512 0-511\nwithout gate interrupts order raises switches unlocks\n"

-- an event behind the number of the line that tells it
unfoldable pub event_lines : Told → List ℕ
event_lines x = codes "# line " ++ decimal x.line ++ 10 ∷ [] ++ numbered_line x.cpu x.event

-- the trace of events
unfoldable pub trace_text : List Told → List ℕ
trace_text told = head_text (has_third told) ++ flat_map event_lines told

-- it has more lines or bytes than a trace may have
abbrev pub is_long : ℕ → ℕ → Bool
is_long events bytes = nat_lt 499998 events || nat_lt 16777216 bytes

unfoldable pub printed : List Told → Result (List ℕ) Refusal
printed told = let text = trace_text told in if is_long (length told) (length text) then Err refusal.LongTrace else Ok text

-- the trace of what is read of a text
abbrev pub trace_of : Result (KeptValue × TellingValue) Refusal → Result (List ℕ) Refusal
trace_of reading = reading >>= λ r. printed r.1.told

-- what was answered is that trace, unless memory ran out
abbrev pub IsTrace : {A : Type 0} → Result (Vec ℕ A) Refusal → Result (List ℕ) Refusal → Type 0
IsTrace (Ok out) made = made ≡ Ok out.items
IsTrace (Err refusal.NoMemory) made = Unit {0}
IsTrace (Err why) made = made ≡ Err why
