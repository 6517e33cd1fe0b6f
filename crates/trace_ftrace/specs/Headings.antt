-- The task, the CPU, the time, the event and the fields of a line.
use Rattle.std.specs.Prelude.{ℕ, ◌+◌, ◌*◌, ◌==◌, if◌then◌else◌, List, [], ◌∷◌, length, Option, Some, None, unwrap_or}
use Rattle.smp_script.specs.Lines.{parts_of}
use Rattle.trace_ftrace.specs.Numbers.{number_of}
use Rattle.trace_ftrace.specs.Options.{◌>>?◌, first_of}
use Rattle.trace_ftrace.specs.Words.{front_of, two_of}

-- what a line tells
pub record HeadingValue : Type 0 where
  pub task : ℕ
  pub cpu : ℕ
  pub context : Option ℕ
  pub time : ℕ
  pub event : List ℕ
  pub fields : List (List ℕ)

-- a CPU, as `[003]`
unfoldable pub cpu_of : List ℕ → Option ℕ
cpu_of [] = None
cpu_of (b ∷ bs) = if b == 91 then (front_of 93 bs >>? number_of 10) else None

-- what is behind the point of a time, in nanoseconds
unfoldable pub nanos_of : List ℕ → Option ℕ
nanos_of part =
    if length part == 6 then (number_of 10 part >>? λ n. Some (n * 1000)) else (if length part == 9 then number_of 10 part else None)

abbrev pub parts_time : List ℕ → List ℕ → Option ℕ
parts_time seconds part = number_of 10 seconds >>? λ n. nanos_of part >>? λ m. Some (n * 1000000000 + m)

-- a time, with a point or without
abbrev pub time_in : Option (List ℕ × List ℕ) → List ℕ → Option ℕ
time_in None text = number_of 10 text
time_in (Some (seconds, part)) text = parts_time seconds part

unfoldable pub time_of : List ℕ → Option ℕ
time_of word = front_of 58 word >>? λ text. time_in (two_of (parts_of 46 text)) text

-- the name of an event, behind its system where that is there
abbrev pub name_in : Option (List ℕ × List ℕ) → List ℕ → List ℕ
name_in None text = text
name_in (Some (system, name)) text = name

unfoldable pub event_of : List ℕ → Option (List ℕ)
event_of word = front_of 58 word >>? λ text. Some (name_in (two_of (parts_of 58 text)) text)

-- what is behind the last of these marks, where what is behind those before is the first text
abbrev pub past_last : ℕ → List ℕ → List ℕ → List ℕ
past_last mark last [] = last
past_last mark last (b ∷ bs) = past_last mark (if b == mark then bs else last) bs

-- a task, as `sh-177`, `177` or `177/177`
abbrev pub front_in : Option (List ℕ × List ℕ) → List ℕ → List ℕ
front_in None text = text
front_in (Some (front, back)) text = front

unfoldable pub task_of : List ℕ → Option ℕ
task_of word = let part = past_last 45 word word in number_of 10 (front_in (two_of (parts_of 47 part)) part)

-- a time, an event and its fields
unfoldable pub stamped : ℕ → ℕ → Option ℕ → List (List ℕ) → Option HeadingValue
stamped task cpu context [] = None
stamped task cpu context (t ∷ []) = None
stamped task cpu context (t ∷ e ∷ fs) = time_of t >>? λ time. event_of e >>? λ event.
    Some (record { task = task; cpu = cpu; context = context; time = time; event = event; fields = fs })

-- how deep in interrupts a CPU is, by the third of these flags
abbrev pub depth_by : ℕ → ℕ
depth_by b = if b == 115 then 1 else (if b == 104 then 2 else (if b == 72 then 3 else (if b == 122 then 4 else (if b == 90 then 5 else 0))))

abbrev pub depth_of : List ℕ → ℕ
depth_of (a ∷ b ∷ c ∷ rest) = depth_by c
depth_of _ = 0

-- a CPU, and flags, in front of these
abbrev pub past_flags : ℕ → ℕ → List (List ℕ) → Option HeadingValue
past_flags task cpu [] = None
past_flags task cpu (w ∷ ws) = stamped task cpu (Some (depth_of w)) ws

unfoldable pub heading_at : ℕ → List (List ℕ) → Option HeadingValue
heading_at task [] = None
heading_at task (w ∷ ws) = cpu_of w >>? λ cpu. first_of (stamped task cpu None ws) (past_flags task cpu ws)

-- the first of these behind one word at least, with the task of the last word before it that names one, or else this task
abbrev pub heading_from : ℕ → List (List ℕ) → Option HeadingValue
heading_from task [] = None
heading_from task (w ∷ ws) = let last = unwrap_or (task_of w) task in first_of (heading_at last ws) (heading_from last ws)

abbrev pub heading_of : List (List ℕ) → Option HeadingValue
heading_of words = heading_from 0 words
