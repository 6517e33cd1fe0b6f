-- What is asked of a text: the verdict on its events alone, or on an order of them.
use Rattle.std.specs.Prelude.{ℕ, Bool, true, false, List, Result, Vec}
use Rattle.trace_judge.specs.declared.trace.Ruling.{Ruling}
use Rattle.trace_judge.specs.declared.verdict.Verdict.{Verdict}
use Rattle.trace_ftrace.specs.Bounds.{shows_order}
use Rattle.trace_ftrace.specs.Kept.{KeptValue}
use Rattle.trace_ftrace.specs.Ordered.{RulesInOrder}
use Rattle.trace_ftrace.specs.Telling.{TellingValue}
use Rattle.trace_ftrace.specs.Text.{Prints, PrintsInOrder}
use Rattle.trace_ftrace.specs.Verdict.{ruling_of, Rules}
use Rattle.trace_ftrace.specs.declared.kept.Mark.{Mark}
use Rattle.trace_ftrace.specs.declared.text.Asked.{Asked}
use Rattle.trace_ftrace.specs.declared.told.Told.{Told}
use Rattle.trace_ftrace.specs.declared.verdict_text.OrderJudged.{OrderJudged}
use Rattle.trace_ftrace.specs.declared.verdict_text.OrderJudged.TheVariants as order
use Rattle.trace_ftrace.specs.declared.wrong.Refusal.{Refusal}

-- whether order is judged where it is asked for: where the lines show it
abbrev pub order_shown : Bool → OrderJudged
order_shown true = order.Judged
order_shown false = order.Hidden

abbrev pub order_judged : Bool → List Mark → OrderJudged
order_judged false marks = order.Unasked
order_judged true marks = order_shown (shows_order marks)

-- what was answered is the verdict on these events; where order is judged, that on an order of them
abbrev pub RulesBy : {A : Type 0} → Result (Verdict A) Refusal → OrderJudged → List Mark → List Told → Type 0
RulesBy answer order.Judged marks told = RulesInOrder answer marks told
RulesBy answer order.Hidden marks told = Rules answer (ruling_of told)
RulesBy answer order.Unasked marks told = Rules answer (ruling_of told)

-- what was answered is what is printed of a text, where order is asked for or not
abbrev pub PrintsWith : {A : Type 0} → Result (Vec ℕ A × Ruling) Refusal → Bool → List ℕ → ℕ → Result (KeptValue × TellingValue) Refusal → Type 0
PrintsWith answer true text slow read = PrintsInOrder answer text slow read
PrintsWith answer false text slow read = Prints answer text slow read

abbrev pub PrintsAsked : {A : Type 0} → Result (Vec ℕ A × Ruling) Refusal → Asked → List ℕ → Result (KeptValue × TellingValue) Refusal → Type 0
PrintsAsked answer asked text read = PrintsWith answer asked.order text asked.slow read
