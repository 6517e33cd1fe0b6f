-- Texts that the judge accepts.
use Rattle.std.specs.List.{AllByRecursion}
use Rattle.std.specs.Prelude.{◌≡◌, ℕ, ◌<◌, List, length, Ok}
use Rattle.smp_script.specs.Lines.{lines_of}
use Rattle.trace_model.specs.State.{StateValue}
use Rattle.trace_judge.specs.Head.{HeadValue, head_of}
use Rattle.trace_judge.specs.Runs.{Told, told_by}
use Rattle.trace_judge.specs.Verdict.{verdict_of}
use Rattle.trace_laws.specs.LawfulLabels.{AreLabels}
use Rattle.trace_laws.specs.Traces.{IsTrace}

-- The lines behind the head of a text tell this number of events, each of a CPU below 512, which lead here, and its labels are lawful at first.
pub record IsTraceOf (text : List ℕ) (count : ℕ) (t : StateValue) : Type 0 where
  pub head : HeadValue
  pub head_is : head_of (lines_of text) ≡ Ok head
  pub told : Told
  pub told_is : told_by head.setting head.cursor.number head.cursor.used head.cursor.lines ≡ Ok told
  pub count_is : length told.events ≡ count
  pub below : AllByRecursion (λ e. e.0 < 512) told.events
  pub labels : AreLabels head.setting head.words
  pub trace : IsTrace head.setting head.words told.events t

-- a text that is accepted is a trace: all laws hold of it
abbrev pub AcceptedAreTraces : Type 0
AcceptedAreTraces = (text : List ℕ) (count : ℕ) (t : StateValue) → verdict_of text ≡ Ok (count, t) → IsTraceOf text count t
