-- What a script means, or its first fault.
use Rattle.std.specs.Prelude.{ℕ, ◌+◌, Bool, ◌&&◌, nat_lt, if◌then◌else◌, List, [], ◌∷◌, ◌++◌, length, Option, Some, None, Result, Ok, Err, codes}
use Rattle.std.specs.Str.{bytes_eq}
use Rattle.smp_mask.specs.Mask.{members}
use Rattle.smp_mask.specs.declared.error.Cause.{Cause}
use Rattle.smp_mask.specs.declared.error.Cause.TheVariants.{TooLong, Cut, Word, Range, SharedKey}
use Rattle.smp_script.specs.declared.directive.Directive.{Directive}
use Rattle.smp_script.specs.declared.directive.Directive.TheVariants.{Start, Step, Show, Do}
use Rattle.smp_script.specs.declared.mode.Mode.{Mode}
use Rattle.smp_script.specs.declared.setting.Setting.{Setting}
use Rattle.smp_script.specs.Keys.{shares}
use Rattle.smp_script.specs.Lines.{fields_of, Line, lines_of}
use Rattle.smp_script.specs.Modes.{mode_text, setting_of}
use Rattle.smp_script.specs.Numbers.{number_in}
use Rattle.smp_words.specs.FirstFault.{◌>>=◌}
use Rattle.smp_script.specs.Faults.{Fault, at_line}
use Rattle.smp_script.specs.Versions.{limit_of, version_of}
use Rattle.smp_script.specs.declared.version.Version.{Version}
use Rattle.smp_script.specs.Fields.{stays_below, mask_of}
use Rattle.smp_script.specs.Commands.{are_whole, line_directive}
use Rattle.smp_labels.specs.Labels.{Labels}
use Rattle.smp_script.specs.Labels.{is_labels, whole_labels}

-- its version, how many CPUs there are, which are online, the labels line where there is one, and what the lines ask for
pub record Script : Type 0 where
  pub version : Version
  pub nr : ℕ
  pub online : ℕ
  pub labels : Option Labels
  pub directives : List Directive

-- how many events a line makes
abbrev pub events_of : Directive → ℕ
events_of (Start cpu command) = 1
events_of (Step cpu count) = count
events_of Show = 0
events_of (Do cpu count request) = 0

-- what the lines from number n on ask for, after this number of events, and after these earlier lines
unfoldable pub directives_of : Setting → ℕ → ℕ → List Directive → List Line → Result (List Directive) Fault
directives_of s n events earlier [] = Ok []
directives_of s n events earlier (l ∷ ls) =
    if nat_lt 2000 n then Err (n, TooLong)
    else (if l.ended then (at_line n (line_directive s l.text) >>= λ d.
    if shares earlier d then Err (n, SharedKey)
    else (if nat_lt 100000 (events + events_of d) then Err (n, TooLong)
    else (directives_of s (n + 1) (events + events_of d) (earlier ++ d ∷ []) ls >>= λ ds. Ok (d ∷ ds))))
    else Err (n, Cut))

-- the line that has to come first, as number n
abbrev pub line_at : ℕ → List Line → Result (List ℕ × List Line) Fault
line_at n [] = Err (n, Cut)
line_at n (l ∷ ls) = if l.ended then Ok (l.text, ls) else Err (n, Cut)

-- `smp`, the version, and the kind of script
abbrev pub title_of : Mode → List (List ℕ) → Result Version Cause
title_of mode (a ∷ b ∷ c ∷ []) =
    if bytes_eq a (codes "smp") then (if bytes_eq c (mode_text mode) then version_of b else Err Word) else Err Word
title_of mode _ = Err Word

-- some CPU is online, and none but these nr
abbrev pub are_online : ℕ → ℕ → Bool
are_online nr mask = nat_lt 0 (length (members mask)) && stays_below nr mask

-- NR MASK, with a limit for both
abbrev pub table_of : ℕ → List ℕ → List ℕ → Result (ℕ × ℕ) Cause
table_of limit nr mask = do
  n ← number_in 1 limit nr
  m ← mask_of limit mask
  if are_online n m then Ok (n, m) else Err Range

-- `cpus NR MASK`
abbrev pub cpus_of : ℕ → List (List ℕ) → Result (ℕ × ℕ) Cause
cpus_of limit (word ∷ nr ∷ mask ∷ []) =
    if bytes_eq word (codes "cpus") then table_of limit nr mask else Err Word
cpus_of limit _ = Err Word

-- the same where no field is empty
abbrev pub whole_cpus : ℕ → List (List ℕ) → Result (ℕ × ℕ) Cause
whole_cpus limit fields = if are_whole fields then cpus_of limit fields else Err Word

-- the labels line, where line 3 is one, and the lines after it
abbrev pub labels_at : List Line → Result (Option Labels × List Line) Fault
labels_at [] = Ok (None, [])
labels_at (l ∷ ls) =
    if is_labels (fields_of l.text) then
    (if l.ended then (at_line 3 (whole_labels (fields_of l.text)) >>= λ labels. Ok (Some labels, ls)) else Err (3, Cut))
    else Ok (None, l ∷ ls)

-- the number of the first line that asks for something
abbrev pub first_line : Option Labels → ℕ
first_line None = 3
first_line (Some labels) = 4

-- what a script of that kind asks for, or its first fault: laws.rt says of each text which, by Spelling and FirstFault
unfoldable pub script_of : Mode → List ℕ → Result Script Fault
script_of mode text =
    if nat_lt 65536 (length text) then Err (0, TooLong)
    else (do
      first ← line_at 1 (lines_of text)
      version ← at_line 1 (title_of mode (fields_of first.0))
      second ← line_at 2 first.1
      table ← at_line 2 (whole_cpus (limit_of version) (fields_of second.0))
      third ← labels_at second.1
      directives ← directives_of (setting_of mode version table.1) (first_line third.0) 0 [] third.1
      Ok (record { version = version; nr = table.0; online = table.1; labels = third.0; directives = directives }))
