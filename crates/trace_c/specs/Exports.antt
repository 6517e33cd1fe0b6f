-- What each export reports of its input.
use Rattle.std.specs.Prelude.{◌≡◌, ℕ, ◌⊎◌, true, false, not, List, [], Result, Ok, Err}
use Rattle.trace_model.specs.State.{StateValue}
use Rattle.trace_judge.specs.declared.early_end.EarlyEnd.{EarlyEnd}
use Rattle.trace_judge.specs.declared.early_end.EarlyEnd.TheVariants as early_end
use Rattle.trace_judge.specs.Text.{broken_text, lawful_text}
use Rattle.smp_replay.specs.declared.difference.Difference.{Difference}
use Rattle.smp_replay.specs.Difference.{DiffersFirst, difference_text}
use Rattle.smp_replay.specs.Output.{replay_of}
use Rattle.smp_script.specs.Faults.{Fault}
use Rattle.smp_script.specs.Script.{Script}
use Rattle.trace_c.specs.Reports.{ReportValue}

-- the answer is yes, with this text
abbrev pub yes : List ℕ → ReportValue
yes text = record { is_yes = true; line = 0; text = text }

-- the answer is no, with this line and text
abbrev pub no : ℕ → List ℕ → ReportValue
no line text = record { is_yes = false; line = line; text = text }

-- A trace of events has this verdict: it is lawful, no run has the event of a line, or a line is at fault.
abbrev pub IsJudged : Result (ℕ × StateValue) EarlyEnd → Result ReportValue Fault → Type 0
IsJudged (Ok (events, state)) report = report ≡ Ok (yes (lawful_text events state))
IsJudged (Err (early_end.Broken line cpu event why)) report = report ≡ Ok (no line (broken_text line cpu event why))
IsJudged (Err (early_end.Fault line cause)) report = report ≡ Err (line, cause)
-- no verdict is want of memory
IsJudged (Err early_end.NoMemory) report = ⊥

-- A script has this replay, and the answer is no where an event is refused; or a line is at fault.
abbrev pub IsReplayed : Result Script Fault → Result ReportValue Fault → Type 0
IsReplayed (Ok script) report = report ≡ Ok (record { is_yes = not (replay_of script).stopped; line = 0; text = (replay_of script).text })
IsReplayed (Err fault) report = report ≡ Err fault

-- What a machine prints and a trace are the same, or differ first there.
abbrev pub IsCompared : List ℕ → List ℕ → Result ReportValue Fault → Type 0
IsCompared printed trace report =
    ((printed ≡ trace) × (report ≡ Ok (yes [])))
    ⊎ ((d : Difference) × DiffersFirst printed trace d × (report ≡ Ok (no d.line (difference_text d printed trace))))

-- A script's replay prints this trace, or another; or a line of the script is at fault.
abbrev pub IsChecked : Result Script Fault → List ℕ → Result ReportValue Fault → Type 0
IsChecked (Ok script) trace report = IsCompared (replay_of script).text trace report
IsChecked (Err fault) trace report = report ≡ Err fault
