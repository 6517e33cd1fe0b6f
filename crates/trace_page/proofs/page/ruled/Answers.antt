use Rattle.std.proofs.Common.{◌≡◌, ℕ, Some, Result, Ok, refl}
use Rattle.trace_model.specs.State.{StateValue}
use Rattle.trace_judge.specs.declared.early_end.EarlyEnd.{EarlyEnd}
use Rattle.trace_judge.specs.declared.verdict.Verdict.{Verdict}
use Rattle.trace_judge.specs.declared.verdict.Verdict.TheVariants.{Lawful, Broken}
use Rattle.trace_judge.specs.Traces.{ruled_of, ruling_of}
use Rattle.trace_judge.specs.Verdict.{Answers, verdict_text}
use Rattle.trace_page.proofs.page.ruled.Goals as goal

-- a verdict that is the answer is printed
answer_ruled : {A : Type 0} (verdict : Verdict A) (made : Result (ℕ × StateValue) EarlyEnd) → Answers (Ok verdict) made
    → ruled_of made ≡ Some (verdict_text verdict, ruling_of verdict)
answer_ruled (Lawful events state) made e = rw e refl
answer_ruled (Broken line cpu event why) made e = rw e refl

pub returns : goal.returns
returns g c =
    rw (c.into_bytes.ensures.value, c.in-Ok.ensures, c.new-out.ensures.bytes, c.ruling_of.ensures)
    (answer_ruled c.in_ok-verdict.verdict _ c.in_ok-verdict.ensures)
