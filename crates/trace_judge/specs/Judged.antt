-- The verdict on the lines of a trace.
use Rattle.std.specs.Prelude.{◌≡◌, ℕ, ◌+◌, Bool, true, false, not, ◌||◌, ◌==◌, nat_le, nat_lt, if◌then◌else◌, List, [], ◌∷◌, length, Option, Some, None}
use Rattle.std.specs.Prelude.{Result, Ok, Err}
use Rattle.smp_mask.specs.declared.error.Cause.{Cause}
use Rattle.smp_mask.specs.declared.error.Cause.TheVariants.{TooLong, Cut}
use Rattle.smp_words.specs.FirstFault.{◌>>=◌}
use Rattle.smp_script.specs.Lines.{Line, fields_of}
use Rattle.trace_model.specs.declared.event.Event.{Event}
use Rattle.trace_model.specs.declared.halt.Halt.{Halt}
use Rattle.trace_model.specs.declared.halt.Halt.TheVariants as halt
use Rattle.trace_judge.specs.declared.early_end.EarlyEnd.{EarlyEnd}
use Rattle.trace_judge.specs.declared.early_end.EarlyEnd.TheVariants.{Fault, Broken, NoMemory}
use Rattle.trace_model.specs.declared.reason.Reason.{Reason}
use Rattle.trace_model.specs.declared.without.Setting.{Setting}
use Rattle.trace_judge.specs.Reading.{whole_event}
use Rattle.trace_model.specs.State.{StateValue}
use Rattle.trace_model.specs.Step.{goes}

-- the bytes of a line, with its line feed
abbrev pub bytes_of : Line → ℕ
bytes_of l = length l.text + (if l.ended then 1 else 0)

-- a line is one too many, too long, or ends behind the most bytes
abbrev pub is_too_long : ℕ → ℕ → Line → Bool
is_too_long n used l = nat_lt 1000000 n || nat_lt 1024 (bytes_of l) || nat_lt 16777216 (used + bytes_of l)

-- how many bytes are used up to the end of line n, or what is wrong with it as a line
unfoldable pub used_after : ℕ → ℕ → Line → Result ℕ EarlyEnd
used_after n used l =
    if is_too_long n used l then Err (Fault n TooLong) else (if l.ended then Ok (used + bytes_of l) else Err (Fault n Cut))

-- a line is a comment
abbrev pub is_comment : List ℕ → Bool
is_comment [] = false
is_comment (b ∷ bs) = b == 35

-- a fault is of its line
abbrev pub at_line : {X : Type 0} → ℕ → Result X Cause → Result X EarlyEnd
at_line n (Ok x) = Ok x
at_line n (Err cause) = Err (Fault n cause)

-- the event that line n tells; none of a comment
unfoldable pub event_on : Setting → ℕ → List ℕ → Result (Option (ℕ × Event)) EarlyEnd
event_on u n text = if is_comment text then Ok None else (at_line n (whole_event u (fields_of text)) >>= λ event. Ok (Some event))

-- what a function reads is so, unless memory ran out
abbrev pub Reads : {X : Type 0} → Result X EarlyEnd → Result X EarlyEnd → Type 0
Reads (Ok x) read = read ≡ Ok x
Reads (Err NoMemory) read = Unit {0}
Reads (Err why) read = read ≡ Err why

-- why a line is the end, where its event was not made
abbrev pub early_end : ℕ → ℕ → Event → Halt → EarlyEnd
early_end n cpu event (halt.Broken why) = Broken n cpu event why
early_end n cpu event halt.NoMemory = NoMemory

-- the event of line n has no run where its step is refused
abbrev pub broken_at : ℕ → ℕ → Event → Result StateValue Reason → Result StateValue EarlyEnd
broken_at n cpu event (Ok s) = Ok s
broken_at n cpu event (Err why) = Err (Broken n cpu event why)

-- the state after the event of a CPU
unfoldable pub told_goes : ℕ → ℕ → Event → StateValue → Result StateValue EarlyEnd
told_goes n cpu event s = broken_at n cpu event (goes cpu event s)

-- a step of a line was made and leads there, or it is the end for that reason, or memory ran out
abbrev pub Lines : {S : Type 0} → Result (Unit {0}) EarlyEnd → S → Result S EarlyEnd → Type 0
Lines (Ok u) new made = made ≡ Ok new
Lines (Err NoMemory) new made = Unit {0}
Lines (Err why) new made = made ≡ Err why

-- the state after a line, and how many events have been told
abbrev pub after_event : ℕ → ℕ → Option (ℕ × Event) → StateValue → Result (ℕ × StateValue) EarlyEnd
after_event n events None s = Ok (events, s)
after_event n events (Some (cpu, event)) s = told_goes n cpu event s >>= λ t. Ok (events + 1, t)

unfoldable pub line_goes : Setting → ℕ → ℕ → List ℕ → StateValue → Result (ℕ × StateValue) EarlyEnd
line_goes u n events text s = event_on u n text >>= λ event. after_event n events event s

-- the lines from number n on, with these numbers of bytes and events before them: how many events there are in all, and the state at the end
unfoldable pub judged : Setting → ℕ → ℕ → ℕ → List Line → StateValue → Result (ℕ × StateValue) EarlyEnd
judged u n used events [] s = Ok (events, s)
judged u n used events (l ∷ ls) s = used_after n used l >>= λ more. line_goes u n events l.text s >>= λ made. judged u (n + 1) more made.0 ls made.1

-- the verdict is that, unless memory ran out
abbrev pub Judges : Result ℕ EarlyEnd → StateValue → Result (ℕ × StateValue) EarlyEnd → Type 0
Judges (Ok events) new verdict = verdict ≡ Ok (events, new)
Judges (Err NoMemory) new verdict = Unit {0}
Judges (Err why) new verdict = verdict ≡ Err why
