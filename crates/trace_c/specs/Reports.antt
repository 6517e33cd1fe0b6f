-- What is reported of an input, and what a call leaves in the caller's memory.
use Rattle.std.specs.Prelude.{◌≡◌, ℕ, ◌⊎◌, ℤ, pos, min, Bool, if◌then◌else◌, List, ◌++◌, length, take, drop, Result, Ok, Err}
use Rattle.smp_mask.specs.declared.error.Cause.{Cause}
use Rattle.smp_mask.specs.declared.error.Cause.TheVariants as causes
use Rattle.smp_mask.specs.declared.error.SmpError.{SmpError}
use Rattle.smp_mask.specs.declared.error.SmpError.TheVariants as errors
use Rattle.smp_script.specs.Faults.{Fault}
use Rattle.trace_c.specs.declared.answer.SmpAnswer.{SmpAnswer}
use Rattle.trace_c.specs.declared.report.Report.{Report}

-- whether the answer is yes, the line that it names, 0 for none, and the text
pub record ReportValue : Type 0 where
  pub is_yes : Bool
  pub line : ℕ
  pub text : List ℕ

-- a report of the program, with its bytes
abbrev pub report_of : Report → ReportValue
report_of r = record { is_yes = r.is_yes; line = r.line; text = r.text.items }

-- the number of a cause; 8 is memory refused
abbrev pub cause_number : Cause → ℕ
cause_number causes.TooLong = 1
cause_number causes.Cut = 2
cause_number causes.Word = 3
cause_number causes.Number = 4
cause_number causes.Range = 5
cause_number causes.Mask = 6
cause_number causes.SharedKey = 7

-- the text as far as there is room for it, and behind it what was there
abbrev pub filled : List ℕ → List ℕ → List ℕ
filled text before = take (length before) text ++ drop (length text) before

-- the status: yes, no, or the input has a fault
abbrev pub status_of : Result ReportValue Fault → ℤ
status_of (Ok report) = if report.is_yes then pos 0 else pos 1
status_of (Err fault) = pos 2

-- the numbers beside it, where `room` bytes have room
abbrev pub answer_of : Result ReportValue Fault → ℕ → SmpAnswer
answer_of (Ok report) room = record { length = length report.text; written = min (length report.text) room; line = report.line; cause = 0 }
answer_of (Err (line, cause)) room = record { length = 0; written = 0; line = line; cause = cause_number cause }

-- the bytes of the caller afterwards
abbrev pub bytes_of : Result ReportValue Fault → List ℕ → List ℕ
bytes_of (Ok report) before = filled report.text before
bytes_of (Err fault) before = before

-- This was reported, and is in the caller's memory.
pub record IsGiven (report : Result ReportValue Fault) (code : ℤ) (found : SmpAnswer) (before after : List ℕ) : Type 0 where
  pub status : code ≡ status_of report
  pub answer : found ≡ answer_of report (length before)
  pub bytes : after ≡ bytes_of report before

-- Memory was refused, and the caller's bytes are as before.
pub record WasRefused (code : ℤ) (found : SmpAnswer) (before after : List ℕ) : Type 0 where
  pub status : code ≡ pos 2
  pub answer : found ≡ record { length = 0; written = 0; line = 0; cause = 8 }
  pub bytes : after ≡ before

-- what was found is so, unless memory was refused
abbrev pub Finds : (Result ReportValue Fault → Type 0) → Result Report SmpError → Type 0
Finds IsSo (Ok report) = IsSo (Ok (report_of report))
Finds IsSo (Err (errors.BadScript line cause)) = IsSo (Err (line, cause))
Finds IsSo (Err errors.NoMemory) = Unit {0}
Finds IsSo (Err _) = ⊥

-- what was found is given to the caller, and want of memory too
abbrev pub GivesReport : Result Report SmpError → ℤ → SmpAnswer → List ℕ → List ℕ → Type 0
GivesReport (Ok report) code found before after = IsGiven (Ok (report_of report)) code found before after
GivesReport (Err (errors.BadScript line cause)) code found before after = IsGiven (Err (line, cause)) code found before after
GivesReport (Err _) code found before after = WasRefused code found before after

-- What a call answers: what is so of its input, or that memory was refused.
abbrev pub Answers : (Result ReportValue Fault → Type 0) → ℤ → SmpAnswer → List ℕ → List ℕ → Type 0
Answers IsSo code found before after =
    ((report : Result ReportValue Fault) × IsSo report × IsGiven report code found before after) ⊎ WasRefused code found before after
