-- The verdict on a trace.
use Rattle.std.specs.Prelude.{◌≡◌, ℕ, List, Result, Ok, Err}
use Rattle.smp_mask.specs.declared.error.SmpError.{SmpError}
use Rattle.smp_mask.specs.declared.error.SmpError.TheVariants as errors
use Rattle.smp_words.specs.FirstFault.{◌>>=◌}
use Rattle.smp_script.specs.Lines.{lines_of}
use Rattle.trace_model.specs.Opened.{opening}
use Rattle.trace_model.specs.State.{StateValue}
use Rattle.trace_judge.specs.declared.early_end.EarlyEnd.{EarlyEnd}
use Rattle.trace_judge.specs.declared.early_end.EarlyEnd.TheVariants as early_end
use Rattle.trace_judge.specs.declared.verdict.Verdict.{Verdict}
use Rattle.trace_judge.specs.declared.verdict.Verdict.TheVariants.{Lawful, Broken}
use Rattle.trace_judge.specs.Head.{HeadValue, head_of}
use Rattle.trace_judge.specs.Judged.{judged}
use Rattle.trace_judge.specs.Text.{broken_text, lawful_text}

-- how many events a trace has, and the state at its end; or why it is none of the model, or no trace
abbrev pub judged_behind : HeadValue → Result (ℕ × StateValue) EarlyEnd
judged_behind h = judged h.setting h.cursor.number h.cursor.used 0 h.cursor.lines (opening h.setting h.words)

unfoldable pub verdict_of : List ℕ → Result (ℕ × StateValue) EarlyEnd
verdict_of text = head_of (lines_of text) >>= judged_behind

-- what was answered is the verdict, unless memory ran out
abbrev pub Answers : {A : Type 0} → Result (Verdict A) SmpError → Result (ℕ × StateValue) EarlyEnd → Type 0
Answers (Ok (Lawful events state)) verdict = verdict ≡ Ok (events, state)
Answers (Ok (Broken line cpu event why)) verdict = verdict ≡ Err (early_end.Broken line cpu event why)
Answers (Err (errors.BadScript line cause)) verdict = verdict ≡ Err (early_end.Fault line cause)
Answers (Err errors.NoMemory) verdict = Unit {0}
Answers (Err _) verdict = ⊥

-- what is printed of a verdict
abbrev pub verdict_text : {A : Type 0} → Verdict A → List ℕ
verdict_text (Lawful events state) = lawful_text events state
verdict_text (Broken line cpu event why) = broken_text line cpu event why
