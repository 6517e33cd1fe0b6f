use Rattle.std.proofs.Common.{ℕ, List, ◌≡◌, Option, Some, None, Result, Ok, Err, Vec, IfSome, refl, sym, subst, inl, inr}
use Rattle.std.specs.Io.KnownBytes.{Consumes, IsAtEnd}
use Rattle.std.specs.Result.{result_ok}
use Rattle.trace_judge.specs.declared.trace.Ruling.{Ruling}
use Rattle.trace_ftrace.specs.Asked.{PrintsAsked}
use Rattle.trace_ftrace.specs.Kept.{KeptValue}
use Rattle.trace_ftrace.specs.KeptView.{kept_value}
use Rattle.trace_ftrace.specs.Reading.{reading_of}
use Rattle.trace_ftrace.specs.Telling.{TellingValue}
use Rattle.trace_ftrace.specs.ThinText.{lines_shown, ShowSame}
use Rattle.trace_ftrace.specs.ToldView.{telling_value}
use Rattle.trace_ftrace.specs.declared.text.Asked.{Asked}
use Rattle.trace_ftrace.specs.declared.thin_text.ShownLines.{ShownLines}
use Rattle.trace_ftrace.specs.declared.wrong.Refusal.{Refusal}
use Rattle.trace_ftrace.specs.Readers.{GivesLines}
use Rattle.trace_ftrace.proofs.reader.judge_twice.Goals as goal

abbrev IsJudged : {A : Type 0} → Option (List ℕ) → Option (List ℕ) → Option (List ℕ) → Option (List ℕ) → Asked → Vec ℕ A × Ruling → Type 0
IsJudged before after again left asked r = (text : List ℕ) × Consumes before after text × IsAtEnd after
    × ((shown : List ℕ) × GivesLines text again left shown × PrintsAsked (Ok r) asked shown (reading_of asked.skip text))

-- what was printed, where it was
judged : {A : Type 0} (o : Option (Vec ℕ A × Ruling)) (p : Result (Vec ℕ A × Ruling) Refusal) (before after again left : Option (List ℕ)) (asked : Asked)
    (text shown : List ℕ) (k : KeptValue) (t : TellingValue) → o ≡ result_ok p → Consumes before after text → IsAtEnd after
    → GivesLines text again left shown → reading_of asked.skip text ≡ Ok (k, t) → PrintsAsked p asked shown (Ok (k, t))
    → IfSome o (IsJudged before after again left asked)
judged o (Ok r) before after again left asked text shown k t e given end gives reads prints =
    let same : PrintsAsked (Ok r) asked shown (reading_of asked.skip text) = subst (λ m. PrintsAsked (Ok r) asked shown m) (sym reads) prints in
    subst (λ x. IfSome x (IsJudged before after again left asked)) (sym e) (text, given, end, (shown, gives, same))
judged o (Err why) before after again left asked text shown k t e given end gives reads prints =
    subst (λ x. IfSome x (IsJudged before after again left asked)) (sym e) tt

-- no line is shown, or those that were kept
shows : (o s : Option ShownLines) (text thin : List ℕ) → s ≡ o → ShowSame s text thin → ShowSame o text thin
shows o s text thin e h = subst (λ x. ShowSame x text thin) e h

pub returns-in-None : goal.returns-in-None
returns-in-None g c = let read = c.in_ok-reading.ensures in
    let none : None ≡ lines_shown c.in_ok-reading.reading.telling.told.items c.in_ok-verdict.verdict = cc (c.in-None.ensures, c.as_slice.ensures.value) in
    judged c.ok-in-None.result c.print_verdict.result _ _ _ _ c.args.asked read.0 read.0 (kept_value c.in_ok-reading.reading.kept)
    (telling_value c.in_ok-reading.reading.telling) c.ok-in-None.ensures.value read.1 read.2 (inl refl) read.3
    (c.print_verdict.ensures read.0 (shows _ None read.0 _ none tt))

pub returns : goal.returns
returns g c = let read = c.in_ok-reading.ensures in let kept = c.in_ok-thin-in-Some.ensures in
    let some : Some c.in-Some.lines ≡ lines_shown c.in_ok-reading.reading.telling.told.items c.in_ok-verdict.verdict =
    cc (c.in-Some.ensures, c.as_slice.ensures.value) in
    judged c.ok-in-Some.result c.print_verdict-in-Some.result _ _ _ _ c.args.asked read.0 kept.0 (kept_value c.in_ok-reading.reading.kept)
    (telling_value c.in_ok-reading.reading.telling) c.ok-in-Some.ensures.value read.1 read.2 (inr (kept.1, kept.2)) read.3
    (c.print_verdict-in-Some.ensures kept.0
    (shows _ (Some c.in-Some.lines) kept.0 _ some (c.in_ok-text-in-Some.ensures.same c.in-Some.lines kept.0 kept.3)))
