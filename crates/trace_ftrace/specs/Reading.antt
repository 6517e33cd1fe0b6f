-- What is read of a text.
use Rattle.std.specs.Prelude.{◌≡◌, ℕ, nat_lt, if◌then◌else◌, List, length, Result, Ok, Err}
use Rattle.smp_script.specs.Lines.{lines_of}
use Rattle.smp_words.specs.FirstFault.{◌>>=◌}
use Rattle.trace_ftrace.specs.Kept.{KeptValue}
use Rattle.trace_ftrace.specs.KeptView.{kept_value}
use Rattle.trace_ftrace.specs.Marks.{lines_kept, no_lines}
use Rattle.trace_ftrace.specs.Telling.{TellingValue}
use Rattle.trace_ftrace.specs.Told.{cpus_of, marks_told, no_records}
use Rattle.trace_ftrace.specs.ToldView.{telling_value}
use Rattle.trace_ftrace.specs.declared.verdict.Reading.{Reading}
use Rattle.trace_ftrace.specs.declared.wrong.Refusal.{Refusal}
use Rattle.trace_ftrace.specs.declared.wrong.Refusal.TheVariants as refusal

-- what is read of a text, of whose lines this is kept
unfoldable pub told_by : KeptValue → Result (KeptValue × TellingValue) Refusal
told_by k = marks_told k.marks (no_records (cpus_of 0 k.marks)) >>= λ t. Ok (k, t)

-- what the lines of a text show and tell, without what is skipped at its start
unfoldable pub reading_of : ℕ → List ℕ → Result (KeptValue × TellingValue) Refusal
reading_of skip text = if nat_lt 536870912 (length text) then Err refusal.TooLong else (lines_kept skip 1 (lines_of text) no_lines >>= told_by)

-- what was answered is that, unless memory ran out
abbrev pub Reads : {A : Type 0} → Result (Reading A) Refusal → Result (KeptValue × TellingValue) Refusal → Type 0
Reads (Ok r) made = made ≡ Ok (kept_value r.kept, telling_value r.telling)
Reads (Err refusal.NoMemory) made = Unit {0}
Reads (Err why) made = made ≡ Err why
