-- The events that marks tell.
use Rattle.std.specs.Prelude.{◌≡◌, ℕ, ◌+◌, nat_lt, if◌then◌else◌, List, [], ◌∷◌, ◌++◌, length}
use Rattle.std.specs.Prelude.{replicate, slice_index_or, slice_set, min, Option, Some, None, Result, Ok, Err}
use Rattle.smp_words.specs.FirstFault.{◌>>=◌}
use Rattle.smp_words.specs.declared.call.Class.{Class}
use Rattle.trace_model.specs.declared.event.CallEvent.{CallEvent}
use Rattle.trace_model.specs.declared.event.CallEvent.TheVariants as calls
use Rattle.trace_model.specs.declared.event.Event.TheVariants as event
use Rattle.trace_ftrace.specs.Records.{record_place}
use Rattle.trace_ftrace.specs.Signs.{class_of}
use Rattle.trace_ftrace.specs.StopTold.{stop_told}
use Rattle.trace_ftrace.specs.Telling.{TellingValue, with_event}
use Rattle.trace_ftrace.specs.declared.kept.Mark.{Mark}
use Rattle.trace_ftrace.specs.declared.sign.Sign.{Sign}
use Rattle.trace_ftrace.specs.declared.sign.Sign.TheVariants as sign
use Rattle.trace_ftrace.specs.declared.wrong.Refusal.{Refusal}
use Rattle.trace_ftrace.specs.declared.wrong.Refusal.TheVariants as refusal
use Rattle.trace_ftrace.specs.declared.wrong.Wrong.TheVariants as wrong

-- before the first mark, where there are so many CPUs
unfoldable pub no_records : ℕ → TellingValue
no_records cpus = record {
  addresses = [];
  told = [];
  running = replicate 512 None;
  cpus = cpus;
  stops = [];
  inside = replicate 512 None;
  alone = replicate 512 None;
}

-- the number of a record, and what is told with it having one
abbrev pub recorded_at : ℕ → Option ℕ → ℕ → TellingValue → Result (ℕ × TellingValue) Refusal
recorded_at line (Some i) address t = Ok (i, t)
recorded_at line None address t =
    if nat_lt (length t.addresses) 65536 then Ok (length t.addresses, record t { addresses = t.addresses ++ address ∷ [] })
    else Err (refusal.Wrong line wrong.Records)

unfoldable pub recorded : ℕ → ℕ → TellingValue → Result (ℕ × TellingValue) Refusal
recorded line address t = recorded_at line (record_place 0 address t.addresses) address t

-- a number was made and leads there, unless memory ran out
abbrev pub Numbers : {S : Type 0} → Result ℕ Refusal → S → Result (ℕ × S) Refusal → Type 0
Numbers (Ok n) new made = made ≡ Ok (n, new)
Numbers (Err refusal.NoMemory) new made = Unit {0}
Numbers (Err why) new made = made ≡ Err why

-- with an event of calls of a mark
abbrev pub with_told : Mark → CallEvent → TellingValue → TellingValue
with_told m e t = with_event m.at (event.Call e) t

-- with a call that joins a queue
unfoldable pub queued : Mark → ℕ → ℕ → Class → TellingValue → Result TellingValue Refusal
queued m to address class t = recorded m.at.line address t >>= λ made. Ok (with_told m (calls.Queue made.0 to class m.func 0) made.1)

-- the number of a record that was queued before
unfoldable pub known : ℕ → TellingValue → Option ℕ
known address t = record_place 0 address t.addresses

abbrev pub queued_if : Mark → ℕ → ℕ → Option Class → TellingValue → Result TellingValue Refusal
queued_if m to address None t = Ok t
queued_if m to address (Some class) t = queued m to address class t

-- with the function of a call that is entered; nothing of a record that was queued before the first line
abbrev pub runs_on : ℕ → Option ℕ → TellingValue → TellingValue
runs_on cpu id t = record t { running = slice_set t.running cpu id }

abbrev pub begun_as : Mark → Option ℕ → TellingValue → TellingValue
begun_as m None t = t
begun_as m (Some id) t = with_told m (calls.Begin id m.func 0) (runs_on m.at.cpu (Some id) t)

unfoldable pub begun : Mark → ℕ → TellingValue → TellingValue
begun m address t = begun_as m (known address t) t

-- with the function of this record's call that has returned
abbrev pub ended_as : Mark → Option ℕ → TellingValue → TellingValue
ended_as m None t = t
ended_as m (Some id) t = with_told m (calls.End id) t

unfoldable pub ended : Mark → Option ℕ → TellingValue → TellingValue
ended m id t = ended_as m id (runs_on m.at.cpu None t)

-- with what a mark tells, with the marks behind it
abbrev pub sign_told : Mark → Sign → List Mark → TellingValue → Result TellingValue Refusal
sign_told m (sign.Queue to address sort told) behind t = queued_if m to address (class_of sort) t
sign_told m (sign.Class address sort) behind t = Ok t
sign_told m sign.Direct behind t = Ok t
sign_told m sign.Interrupt behind t = Ok t
sign_told m sign.Probe behind t = Ok t
sign_told m sign.Passed behind t = Ok t
sign_told m (sign.Begin address) behind t = Ok (begun m address t)
sign_told m (sign.End address) behind t = Ok (ended m (known address t) t)
sign_told m sign.EndLast behind t = Ok (ended m (slice_index_or t.running m.at.cpu None) t)
sign_told m (sign.Stop s) behind t = if nat_lt m.at.cpu 32 then stop_told m.at s behind t else Err (refusal.Wrong m.at.line wrong.Cpu)

unfoldable pub mark_told : Mark → List Mark → TellingValue → Result TellingValue Refusal
mark_told m behind t = sign_told m m.sign behind t

-- with what these marks tell
abbrev pub marks_told : List Mark → TellingValue → Result TellingValue Refusal
marks_told [] t = Ok t
marks_told (m ∷ ms) t = mark_told m ms t >>= marks_told ms

-- one more than the highest CPU that marks name, or this number where that is more
abbrev pub above : ℕ → ℕ → ℕ
above cpus cpu = if nat_lt cpu cpus then cpus else min (cpu + 1) 4294967295

abbrev pub more_of : ℕ → Sign → ℕ
more_of cpus (sign.Queue to address sort told) = above cpus to
more_of cpus other = cpus

abbrev pub more_cpus : ℕ → Mark → ℕ
more_cpus cpus m = more_of (above cpus m.at.cpu) m.sign

abbrev pub cpus_of : ℕ → List Mark → ℕ
cpus_of cpus [] = cpus
cpus_of cpus (m ∷ ms) = cpus_of (more_cpus cpus m) ms
