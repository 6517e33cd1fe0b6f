-- A trace from a reader, and its verdict to a writer.
use Rattle.std.specs.Prelude.{◌≡◌, ℕ, List, Option, Some, None, Result, Ok, Err}
use Rattle.smp_script.specs.Faults.{Fault}
use Rattle.smp_script.specs.Transforms.{Transforming, Transforms}
use Rattle.trace_model.specs.State.{StateValue}
use Rattle.trace_judge.specs.declared.early_end.EarlyEnd.{EarlyEnd}
use Rattle.trace_judge.specs.declared.early_end.EarlyEnd.TheVariants as early_end
use Rattle.trace_judge.specs.declared.trace.Ruling.{Ruling}
use Rattle.trace_judge.specs.declared.trace.Ruling.TheVariants as rulings
use Rattle.trace_judge.specs.declared.verdict.Verdict.{Verdict}
use Rattle.trace_judge.specs.declared.verdict.Verdict.TheVariants.{Lawful, Broken}
use Rattle.trace_judge.specs.Text.{broken_text, lawful_text}
use Rattle.trace_judge.specs.Verdict.{verdict_of}

-- whether a verdict is that the trace is lawful
abbrev pub ruling_of : {A : Type 0} → Verdict A → Ruling
ruling_of (Lawful events state) = rulings.Lawful
ruling_of (Broken line cpu event why) = rulings.Broken

-- what is printed of the verdict on a trace, and whether that is lawful; nothing where a line of it is at fault
abbrev pub ruled_of : Result (ℕ × StateValue) EarlyEnd → Option (List ℕ × Ruling)
ruled_of (Ok (events, state)) = Some (lawful_text events state, rulings.Lawful)
ruled_of (Err (early_end.Broken line cpu event why)) = Some (broken_text line cpu event why, rulings.Broken)
ruled_of (Err _) = None

-- the trace in this text has a verdict, this is printed of it, and it is lawful or not
abbrev pub IsRuled : List ℕ → List ℕ → Ruling → Type 0
IsRuled text out ruling = ruled_of (verdict_of text) ≡ Some (out, ruling)

-- this line of the text is at fault, no event before it is broken, and this is what is wrong there
abbrev pub AtFault : List ℕ → Fault → Type 0
AtFault text (line, cause) = verdict_of text ≡ Err (early_end.Fault line cause)

-- What a call of `judge_trace` did, by its answer: what was read is a trace, and what was written is its verdict.
abbrev pub Judged : Transforming Ruling
Judged = Transforms 16777216 IsRuled AtFault
