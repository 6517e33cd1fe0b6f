-- The marks of calls that the lines of a text have.
use Rattle.std.specs.Prelude.{◌≡◌, ℕ, ◌+◌, ◌-◌, Bool, true, false, not, ◌&&◌, ◌||◌, nat_lt, if◌then◌else◌}
use Rattle.std.specs.Prelude.{List, [], ◌∷◌, replicate, insert, slice_index_or, slice_set, Option, Some, None, Result, Ok, Err, codes}
use Rattle.std.specs.Str.{bytes_eq}
use Rattle.smp_script.specs.Lines.{Line, fields_of, parts_of}
use Rattle.smp_words.specs.FirstFault.{◌>>=◌}
use Rattle.trace_ftrace.specs.Fields.{cpu_below, needed_symbol}
use Rattle.trace_ftrace.specs.Headings.{HeadingValue, heading_of}
use Rattle.trace_ftrace.specs.Kept.{KeptValue, behind, classed, numbered, on_cpu}
use Rattle.trace_ftrace.specs.Offline.{shows_offline}
use Rattle.trace_ftrace.specs.Signs.{begins, sign_of}
use Rattle.trace_ftrace.specs.Words.{two_of, words_of}
use Rattle.trace_ftrace.specs.declared.kept.Mark.{Mark}
use Rattle.trace_ftrace.specs.declared.kept.Stamp.{Stamp}
use Rattle.trace_ftrace.specs.declared.sign.Sign.{Sign}
use Rattle.trace_ftrace.specs.declared.sign.Sign.TheVariants as sign
use Rattle.trace_ftrace.specs.declared.sign.Sort.{Sort}
use Rattle.trace_ftrace.specs.declared.wrong.Refusal.{Refusal}
use Rattle.trace_ftrace.specs.declared.wrong.Refusal.TheVariants as refusal
use Rattle.trace_ftrace.specs.declared.wrong.Wrong.{Wrong}
use Rattle.trace_ftrace.specs.declared.wrong.Wrong.TheVariants as wrong

-- what is wrong is so at its line
abbrev pub at_line : {X : Type 0} → ℕ → Result X Wrong → Result X Refusal
at_line line (Ok x) = Ok x
at_line line (Err why) = Err (refusal.Wrong line why)

-- what was made is that, unless memory ran out
abbrev pub Keeps : {S : Type 0} → Result (Unit {0}) Refusal → S → Result S Refusal → Type 0
Keeps (Ok u) new made = made ≡ Ok new
Keeps (Err refusal.NoMemory) new made = Unit {0}
Keeps (Err why) new made = made ≡ Err why

-- before the first line
abbrev pub no_lines : KeptValue
no_lines = record { names = []; marks = []; times = replicate 512 0; first = None; offline = None }

-- with one more mark, behind all those that are not later
abbrev pub with_mark : Mark → KeptValue → KeptValue
with_mark m k = record k { marks = insert k.marks (behind m.at.time k.marks) m }

-- with a mark of the function that has this number
abbrev pub with_named : Stamp → Sign → ℕ × List (List ℕ) → KeptValue → KeptValue
with_named at s named k = with_mark (record { at = at; func = named.0; sign = s }) (record k { names = named.1 })

unfoldable pub named : Stamp → Sign → List (List ℕ) → KeptValue → Result KeptValue Refusal
named at s fields k = at_line at.line (needed_symbol fields) >>= λ name. Ok (with_named at s (numbered name k.names) k)

-- with the last record that this CPU has queued, by this address, being of this sort
abbrev pub class_if : Stamp → Option (List Mark) → KeptValue → Result KeptValue Refusal
class_if at (Some marks) k = Ok (record k { marks = marks })
class_if at None k = if on_cpu at.cpu k.marks then Err (refusal.Wrong at.line wrong.Class) else Ok k

unfoldable pub class_line : Stamp → ℕ → Sort → KeptValue → Result KeptValue Refusal
class_line at address s k = class_if at (classed at.cpu address s k.marks) k

-- with what a line shows
unfoldable pub marked : Stamp → Sign → List (List ℕ) → KeptValue → Result KeptValue Refusal
marked at (sign.Queue to address s told) fields k = named at (sign.Queue to address s told) fields k
marked at (sign.Class address s) fields k = class_line at address s k
marked at (sign.Begin address) fields k = named at (sign.Begin address) fields k
marked at other fields k = Ok (with_mark (record { at = at; func = 0; sign = other }) k)

-- with the line, where that is the first that shows that a CPU has gone offline
abbrev pub or_line : Option ℕ → ℕ → Option ℕ
or_line None line = Some line
or_line (Some first) line = Some first

abbrev pub offline_if : Bool → ℕ → KeptValue → KeptValue
offline_if true line k = record k { offline = or_line k.offline line }
offline_if false line k = k

-- with what a line tells
abbrev pub marked_if : Stamp → List (List ℕ) → Option Sign → KeptValue → Result KeptValue Refusal
marked_if at fields None k = Ok k
marked_if at fields (Some s) k = marked at s fields (offline_if (shows_offline s fields) at.line k)

-- a time is behind the first by less than what is skipped
abbrev pub first_time : Option ℕ → ℕ → ℕ
first_time None time = time
first_time (Some first) time = first

abbrev pub is_skipped : ℕ → Option ℕ → ℕ → Bool
is_skipped skip first time = nat_lt (time - first_time first time) skip

-- the times with that of a line of this CPU
abbrev pub timed : ℕ → ℕ → KeptValue → KeptValue
timed cpu time k = record k { times = slice_set k.times cpu time; first = Some (first_time k.first time) }

unfoldable pub shown_line : Stamp → HeadingValue → KeptValue → Result KeptValue Refusal
shown_line at h k = at_line at.line (sign_of h.event h.fields) >>= λ s. marked_if at h.fields s k

-- a line is not before the last of its CPU
unfoldable pub line_of_cpu : ℕ → Stamp → HeadingValue → KeptValue → Result KeptValue Refusal
line_of_cpu skip at h k =
    if nat_lt at.time (slice_index_or k.times at.cpu 0) then Err (refusal.Wrong at.line wrong.Time)
    else (if is_skipped skip k.first at.time then Ok (timed at.cpu at.time k) else shown_line at h (timed at.cpu at.time k))

unfoldable pub event_line : ℕ → ℕ → HeadingValue → KeptValue → Result KeptValue Refusal
event_line skip line h k = at_line line (cpu_below h.cpu) >>= λ cpu.
    line_of_cpu skip (record { line = line; cpu = cpu; time = h.time; task = h.task; context = h.context }) h k

-- a CPU's buffer is empty
abbrev pub is_empty_note : List (List ℕ) → Bool
is_empty_note (a ∷ b ∷ c ∷ d ∷ []) = bytes_eq a (codes "CPU") && bytes_eq c (codes "is") && bytes_eq d (codes "empty")
is_empty_note _ = false

-- the first word of what tells nothing
abbrev pub is_note : List ℕ → Bool
is_note first = begins (codes "#") first || begins (codes "cpus=") first || bytes_eq first (codes "version")

-- the buffers hold fewer events than were written
abbrev pub is_other : Option (List ℕ × List ℕ) → Bool
is_other None = false
is_other (Some (held, written)) = not (bytes_eq held written)

unfoldable pub is_counts : List ℕ → Bool
is_counts name = bytes_eq name (codes "entries-in-buffer/entries-written:")

unfoldable pub is_cut : List (List ℕ) → Bool
is_cut (hash ∷ name ∷ counts ∷ ws) = is_counts name && is_other (two_of (parts_of 47 counts))
is_cut _ = false

-- the words of a line that is no event
abbrev pub noted : ℕ → List (List ℕ) → Result (Unit {0}) Refusal
noted line [] = Ok tt
noted line (w ∷ ws) =
    if is_cut (w ∷ ws) then Err (refusal.Wrong line wrong.Lost)
    else (if is_note w || is_empty_note (w ∷ ws) then Ok tt else Err (refusal.Wrong line wrong.Form))

-- with what a line tells, by its words
abbrev pub words_kept : ℕ → ℕ → List (List ℕ) → Option HeadingValue → KeptValue → Result KeptValue Refusal
words_kept skip line words None k = noted line words >>= λ u. Ok k
words_kept skip line words (Some h) k = event_line skip line h k

unfoldable pub line_kept : ℕ → ℕ → List ℕ → KeptValue → Result KeptValue Refusal
line_kept skip line text k = let words = words_of (fields_of text) in words_kept skip line words (heading_of words) k

-- with what these lines tell, of which the first has this number
abbrev pub lines_kept : ℕ → ℕ → List Line → KeptValue → Result KeptValue Refusal
lines_kept skip n [] k = Ok k
lines_kept skip n (l ∷ ls) k = line_kept skip n l.text k >>= lines_kept skip (n + 1) ls
